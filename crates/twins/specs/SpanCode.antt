-- Ranges of CPUs of one weight as contracts see them.
use Rattle.std.specs.Prelude.{ℕ, List, refl}
use Rattle.std.specs.Coded.{Coded, code_by, coded×, coded_list, coded_ℕ}
use Rattle.twins.specs.declared.span_list.Span.{Span}

-- the CPUs from the first up to the last, with a weight
abbrev pub span_of : ℕ → ℕ × ℕ → Span
span_of weight range = record { first = range.0; last = range.1; weight = weight }

-- a range is stored as its fields
abbrev pub span_code : Coded Span
span_code =
    code_by (ℕ × (ℕ × ℕ)) (coded× coded_ℕ (coded× coded_ℕ coded_ℕ)) (λ s. (s.first, (s.last, s.weight)))
    (λ p. record { first = p.0; last = p.1.0; weight = p.1.1 }) (λ _. refl)

abbrev pub spans_code : Coded (List Span)
spans_code = coded_list span_code

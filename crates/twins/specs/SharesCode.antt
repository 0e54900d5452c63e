-- The holders of a class as contracts see them: a list of shares.
use Rattle.std.specs.Prelude.{ℕ, List, refl}
use Rattle.std.specs.Coded.{Coded, code_by, coded×, coded_list, coded_ℕ}
use Rattle.twins.specs.declared.holders.Share.{Share}

-- a share is stored as the pair of its fields
abbrev pub share_code : Coded Share
share_code =
    code_by (ℕ × ℕ) (coded× coded_ℕ coded_ℕ) (λ s. (s.row, s.amount))
    (λ p. record { row = p.0; amount = p.1 }) (λ _. refl)

abbrev pub shares_code : Coded (List Share)
shares_code = coded_list share_code

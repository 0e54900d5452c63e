-- The text of ranges, one after another.
use Rattle.std.proofs.Common.{◌≡◌, ◌==◌, if◌then◌else◌, ℕ, Bool, true, false, List, [], ◌∷◌, ◌++◌, decimal, refl, sym, ap, append-nil}
use Rattle.std.proofs.lemmas.Bool.{cond-false, cond-true, eq-eqb, ne_eqb}
use Rattle.cpu_list.specs.CanonicalList.{range_text, ranges_text}
use Rattle.cpu_list.specs.TextAfter.{text_after}

pub range_text-apart : (first last : ℕ) → (first ≡ last → ⊥) → range_text (first, last) ≡ decimal first ++ 45 ∷ decimal last
range_text-apart first last apart = cond-false _ _ _ (ne_eqb first last apart)

pub range_text-same : (first last : ℕ) → first ≡ last → range_text (first, last) ≡ decimal first
range_text-same first last same = cond-true _ _ _ (eq-eqb first last same)

-- what follows the first number
abbrev pub after_first : ℕ × ℕ → List ℕ
after_first r = if r.0 == r.1 then [] else 45 ∷ decimal r.1

first_part : (same : Bool) (first rest : List ℕ) → (if same then first else first ++ rest) ≡ first ++ (if same then [] else rest)
first_part true first rest = sym (append-nil first)
first_part false first rest = refl

pub range_text-begins : (r : ℕ × ℕ) → range_text r ≡ decimal r.0 ++ after_first r
range_text-begins r = first_part (r.0 == r.1) (decimal r.0) (45 ∷ decimal r.1)

pub after_comma : (r : ℕ × ℕ) (more : List (ℕ × ℕ)) → ranges_text (r ∷ more) ≡ range_text r ++ text_after (44 ∷ []) more
after_comma r [] = sym (append-nil (range_text r))
after_comma r (s ∷ more) = ap (λ text. range_text r ++ 44 ∷ text) (after_comma s more)

-- all ranges, with nothing before the first
pub text_after-nil : (ranges : List (ℕ × ℕ)) → text_after [] ranges ≡ ranges_text ranges
text_after-nil [] = refl
text_after-nil (r ∷ more) = sym (after_comma r more)

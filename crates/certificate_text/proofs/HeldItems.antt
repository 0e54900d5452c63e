-- What holds of the first elements of a list, one after another.
use Rattle.std.proofs.Common.{◌≡◌, ℕ, ◌+◌, ◌<◌, List, length, get_or, Result, Ok, Err, inl, inr, ◌∙◌, subst, arith}
use Rattle.std.proofs.lemmas.Bool.{cases_lt}
use Rattle.std.proofs.lemmas.List.{get_or_default}
use Rattle.std.specs.Prelude.{OnOk}

-- it holds of each element before a place
abbrev pub HoldUpTo : {X : Type 0} → (X → Type 0) → List X → ℕ → Type 0
HoldUpTo {X} P xs i = (k : ℕ) (d : X) → k < i → P (get_or xs k d)

pub hold_more : {X : Type 0} (P : X → Type 0) (xs : List X) (i : ℕ) (x : X) → i < length xs → x ≡ get_or xs i x → HoldUpTo P xs i → P x → HoldUpTo P xs (i + 1)
hold_more {X} P xs i x within is before own k d lt = elim (cases_lt k i) [
  | inl earlier ↦ before k d earlier
  | inr later ↦
      (let same : i ≡ k = omega (arith, lt, later) in
      subst (λ j. P (get_or xs j d)) same (subst P (is ∙ get_or_default xs i x d within) own))
]

-- it holds of the element at a place too
pub hold_at : {X : Type 0} (P : X → Type 0) (xs : List X) (i : ℕ) → ((d : X) → P (get_or xs i d)) → HoldUpTo P xs i → HoldUpTo P xs (i + 1)
hold_at P xs i own before k d lt = elim (cases_lt k i) [
  | inl earlier ↦ before k d earlier
  | inr later ↦
      (let same : i ≡ k = omega (arith, lt, later) in
      subst (λ j. P (get_or xs j d)) same (own d))
]

pub on_ok : {A E : Type 0} (P : Type 0) (r : Result A E) → P → OnOk r P
on_ok P (Ok a) p = p
on_ok P (Err e) p = tt

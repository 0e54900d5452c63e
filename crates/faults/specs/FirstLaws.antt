-- What `first_below` means, in words that name no recursion.
use Rattle.std.proofs.Common.{◌≡◌, ℕ, zero, suc, ◌<◌, inl, inr, Option, Some, None, refl, arith}
use Rattle.std.proofs.lemmas.Bool.{cases_lt}
use Rattle.faults.specs.First.{first_below}

-- if no number below n has a fault, there is none
abbrev pub NoneWhereNone : Type 0 → Type 0
NoneWhereNone A = (n : ℕ) (f : ℕ → Option A) → ((k : ℕ) → k < n → f k ≡ None) → first_below n f ≡ None

-- the least number that has a fault decides
abbrev pub LeastDecides : Type 0 → Type 0
LeastDecides A = (n k : ℕ) (f : ℕ → Option A) (a : A)
    → k < n → ((j : ℕ) → j < k → f j ≡ None) → f k ≡ Some a → first_below n f ≡ Some a

-- two that agree below n have the same first fault there
abbrev pub AlikeDecideAlike : Type 0 → Type 0
AlikeDecideAlike A = (n : ℕ) (f g : ℕ → Option A) → ((k : ℕ) → k < n → f k ≡ g k) → first_below n f ≡ first_below n g

pub first_below-none : {A : Type 0} → NoneWhereNone A
unfolding first_below
first_below-none zero f none = refl
first_below-none (suc n) f none = rw (first_below-none n f (λ k lt. none k (omega arith))) (none n (omega arith))

pub first_below-at : {A : Type 0} → LeastDecides A
unfolding first_below
first_below-at zero k f a lt before at = absurd (omega arith)
first_below-at (suc n) k f a lt before at =
    elim (cases_lt k n) [
      | inl below ↦ rw (first_below-at n k f a below before at) refl
      | inr last ↦
          let is : n ≡ k = omega arith in
          rw is (rw (first_below-none k f before) at)
    ]

pub first_below-same : {A : Type 0} → AlikeDecideAlike A
unfolding first_below
first_below-same zero f g same = refl
first_below-same (suc n) f g same =
    rw (first_below-same n f g (λ k lt. same k (omega arith)), same n (omega arith)) refl

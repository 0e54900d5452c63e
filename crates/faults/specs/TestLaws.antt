-- What tests that are put together say, and checks that are: what several crates need besides the kit's own lemmas.
use Rattle.std.proofs.Common.{◌≡◌, ℕ, zero, suc, ◌<◌, Bool, true, false, not, ◌&&◌, ◌||◌, Option, Some, None, option_map, inl, inr, refl, sym, ap, ◌∙◌, arith, nat_lt}
use Rattle.std.proofs.lemmas.Bool.{true≢false, false≢true, false_from_ne_true, cases_lt}
use Rattle.std.specs.Option.{option_or}
use Rattle.faults.specs.First.{when, first_below}
use Rattle.std.proofs.lemmas.Bool.Decides.{nat_tests}

pub never_both : (a b : Bool) → (a ≡ true → b ≡ true → ⊥) → (a && b) ≡ false
never_both true b never = false_from_ne_true b (never refl)
never_both false b never = refl

-- one test without others
pub without : (a b : Bool) → (a && not b) ≡ false → a ≡ true → b ≡ true
without true true e is = refl
without true false e is = absurd (true≢false e)
without false b e is = absurd (false≢true is)

pub without_parts : (a b : Bool) → (a && not b) ≡ true → (a ≡ true) × (b ≡ false)
without_parts true true e = absurd (false≢true e)
without_parts true false e = (refl, refl)
without_parts false b e = absurd (false≢true e)

pub without_two : (a b c : Bool) → ((a && not b) && not c) ≡ (a && not (b || c))
without_two true true c = refl
without_two true false c = refl
without_two false b c = refl

pub without_none : (a : Bool) → a ≡ (a && not false)
without_none true = refl
without_none false = refl

pub none_left : (a b : Bool) → (a ≡ true → b ≡ true) → (a && not b) ≡ false
none_left true b f = ap not (f refl)
none_left false b f = refl

pub left_over : (a b : Bool) → a ≡ true → b ≡ false → (a && not b) ≡ true
left_over a b e f = rw (e, f) refl

-- a test of a number
pub none_above : (n : ℕ) → nat_lt 0 n ≡ false → n ≡ 0
none_above n none = grind (arith, nat_tests)

-- two tests that hold of one another are one
pub same_tests : (a b : Bool) → (a ≡ true → b ≡ true) → (b ≡ true → a ≡ true) → a ≡ b
same_tests true b f g = sym (f refl)
same_tests false true f g = g refl
same_tests false false f g = refl

-- checks that found no fault
module _ {A : Type 0} where
  pub none_of_both : (a b : Option A) → option_or a b ≡ None → (a ≡ None) × (b ≡ None)
  none_of_both None b e = (refl, e)
  none_of_both (Some x) b e = absurd (cc)

  pub passed : (b : Bool) (fault : A) → when (not b) fault ≡ None → b ≡ true
  passed true fault e = refl
  passed false fault e = absurd (cc)

  pub none_below : (n : ℕ) (f : ℕ → Option A) → first_below n f ≡ None → (k : ℕ) → k < n → f k ≡ None
  unfolding first_below
  none_below zero f none k lt = absurd (omega arith)
  none_below (suc n) f none k lt =
      let parts : (first_below n f ≡ None) × (f n ≡ None) = none_of_both (first_below n f) (f n) none in
      elim (cases_lt k n) [
        | inl below ↦ none_below n f parts.0 k below
        | inr last ↦ let same : n ≡ k = omega arith in ap f (sym same) ∙ parts.1
      ]

  pub unmapped : {B : Type 0} (f : A → B) (a : Option A) → option_map f a ≡ None → a ≡ None
  unmapped f None e = refl
  unmapped f (Some x) e = absurd (cc)

  pub mapped : {B : Type 0} (f : A → B) (a : Option A) (y : B) → option_map f a ≡ Some y → (x : A) × (a ≡ Some x) × (f x ≡ y)
  mapped f None y e = absurd (cc)
  mapped f (Some x) y e = (x, refl, cc)

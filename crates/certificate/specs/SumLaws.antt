-- Sums over a list, term by term.
use Rattle.std.proofs.Common.{◌≡◌, ℕ, zero, suc, ◌+◌, ◌*◌, ◌<◌, ◌≤◌, Bool, true, false, cond, List, [], ◌∷◌, length, refl, sum_by, arith}
use Rattle.std.specs.List.{filter, range_with_len}
use Rattle.std.proofs.lemmas.List.Sums.{sum_by-cons}

module _ {X : Type 0} where
  pub sum_by_none : (f : X → ℕ) (xs : List X) → ((x : X) → f x ≡ 0) → sum_by f xs ≡ 0
  sum_by_none f [] none = refl
  sum_by_none f (x ∷ xs) none = omega (arith, sum_by-cons f x xs, none x, sum_by_none f xs none)

  pub sum_by_same : (f g : X → ℕ) (xs : List X) → ((x : X) → f x ≡ g x) → sum_by f xs ≡ sum_by g xs
  sum_by_same f g [] same = refl
  sum_by_same f g (x ∷ xs) same =
      omega (arith, sum_by-cons f x xs, sum_by-cons g x xs, same x, sum_by_same f g xs same)

  pub sum_by_plus : (f g : X → ℕ) (xs : List X) → sum_by (λ x. f x + g x) xs ≡ sum_by f xs + sum_by g xs
  sum_by_plus f g [] = refl
  sum_by_plus f g (x ∷ xs) =
      omega (arith, sum_by-cons (λ y. f y + g y) x xs, sum_by-cons f x xs, sum_by-cons g x xs, sum_by_plus f g xs)

  pub sum_by_times : (f : X → ℕ) (m : ℕ) (xs : List X) → sum_by (λ x. f x * m) xs ≡ sum_by f xs * m
  sum_by_times f m [] = omega arith
  sum_by_times f m (x ∷ xs) =
      rw (sum_by-cons (λ y. f y * m) x xs, sum_by-cons f x xs) (omega (arith, sum_by_times f m xs))

  filter_step :
      (t : X → Bool) (f : X → ℕ) (x : X) (xs : List X) (b : Bool) → sum_by f (filter t xs) ≡ sum_by (λ y. cond (t y) (f y) 0) xs
      → sum_by f (cond b (x ∷ filter t xs) (filter t xs)) ≡ cond b (f x) 0 + sum_by (λ y. cond (t y) (f y) 0) xs
  filter_step t f x xs true e = rw (sum_by-cons f x (filter t xs)) (omega (arith, e))
  filter_step t f x xs false e = omega (arith, e)

  -- what a filter keeps, summed, is the sum of the terms that pass
  pub sum_by-filter : (t : X → Bool) (f : X → ℕ) (xs : List X) → sum_by f (filter t xs) ≡ sum_by (λ x. cond (t x) (f x) 0) xs
  sum_by-filter t f [] = refl
  sum_by-filter t f (x ∷ xs) =
      rw (sum_by-cons (λ y. cond (t y) (f y) 0) x xs) (filter_step t f x xs (t x) (sum_by-filter t f xs))

-- a sum over a range, where the terms are ordered on it
pub sum_by-range-le :
    (f g : ℕ → ℕ) (a n : ℕ) → ((x : ℕ) → x < a + n → f x ≤ g x)
    → sum_by f (range_with_len a n) ≤ sum_by g (range_with_len a n)
sum_by-range-le f g a zero below = omega arith
sum_by-range-le f g a (suc n) below =
    omega (
      arith,
      sum_by-cons f a (range_with_len (a + 1) n),
      sum_by-cons g a (range_with_len (a + 1) n),
      below a (omega arith),
      sum_by-range-le f g (a + 1) n (λ x lt. below x (omega arith)),
    )

pub sum_by-constant : {X : Type 0} (m : ℕ) (xs : List X) → sum_by (λ (x : X). m) xs ≡ length xs * m
sum_by-constant m [] = omega arith
sum_by-constant {X} m (x ∷ xs) = rw (sum_by-cons (λ (x : X). m) x xs) (omega (arith, sum_by-constant m xs))

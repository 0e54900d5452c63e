-- Truth values.
use Rattle.std.proofs.Common.{◌≡◌, ℕ, ◌≤◌, Bool, true, false, cond, ◌&&◌, arith}
use Rattle.std.proofs.lemmas.Bool.{and_parts}

-- both sides of a conjunction that holds; the `and_left` and `and_right` of std are about one that does not
pub true_left : (a b : Bool) → (a && b) ≡ true → a ≡ true
true_left a b e = (and_parts a b e).0

pub true_right : (a b : Bool) → (a && b) ≡ true → b ≡ true
true_right a b e = (and_parts a b e).1

-- a test, counted
pub one_at_most : (b : Bool) → cond {A = ℕ} b 1 0 ≤ 1
one_at_most true = omega arith
one_at_most false = omega arith

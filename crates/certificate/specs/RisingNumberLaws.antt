-- Numbers that rise below a limit are no more than it.
use Rattle.std.proofs.Common.{ℕ, zero, suc, ◌<◌, ◌≤◌, List, length, get_or, subst, arith, All}
use Rattle.std.proofs.Math.Numerals.{add-one}
use Rattle.std.specs.List.Sorted.{IsStrictlyIncreasing}

at_least : (ks : List ℕ) → IsStrictlyIncreasing ks → (i : ℕ) → i < length ks → i ≤ get_or ks i 0
at_least ks rising zero lt = omega arith
at_least ks rising (suc i) lt =
    let next : get_or ks i 0 < get_or ks (suc i) 0 = subst (λ j. get_or ks i 0 < get_or ks j 0) (add-one i) (rising i (omega arith)) in
    omega (arith, at_least ks rising i (omega arith))

pub few_numbers : (ks : List ℕ) (n : ℕ) → IsStrictlyIncreasing ks → All (λ k. k < n) ks → length ks ≤ n
few_numbers ks n rising below = by_length (length ks) (omega arith)
  where
    by_length : (m : ℕ) → m ≤ length ks → m ≤ n
    by_length zero le = omega arith
    by_length (suc m) le = omega (arith, at_least ks rising m (omega arith), below m 0 (omega arith))

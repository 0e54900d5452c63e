-- Numbers that rise.
use Rattle.std.proofs.Common.{◌≡◌, ℕ, suc, ◌+◌, ◌<◌, Bool, true, false, List, [], ◌∷◌, refl, sym, arith, nat_lt}
use Rattle.std.specs.List.{AllPairs, IsAllAdjacentAnswer}
use Rattle.std.specs.List.Sorted.{IsStrictlyIncreasing}
use Rattle.std.proofs.lemmas.Bool.{ltb-true, lt-ltb, false_from_ne_true, both_ways, and_from}
use Rattle.std.proofs.lemmas.List.Kept.{AllPairs-from_increasing, AllPairs-cons}
use Rattle.std.proofs.lemmas.List.Sums.{AllPass-from_list_all, list_all-from_AllPass}
use Rattle.certificate.specs.Limits.{is_rising}
use Rattle.certificate.specs.TestLaws.{true_left, true_right}

rising_pairs : (ks : List ℕ) → is_rising ks ≡ true → AllPairs (λ x y. x < y) ks
rising_pairs [] e = λ i j d lt below. absurd (omega arith)
rising_pairs (k ∷ ks) e =
    AllPairs-cons (λ x y. x < y) k ks (λ i d lt. ltb-true _ _ (AllPass-from_list_all (nat_lt k) ks (true_left _ _ e) i d lt))
    (rising_pairs ks (true_right _ _ e))

pairs_rising : (ks : List ℕ) → AllPairs (λ x y. x < y) ks → is_rising ks ≡ true
pairs_rising [] pairs = refl
pairs_rising (k ∷ ks) pairs =
    and_from _ _ (list_all-from_AllPass (nat_lt k) ks (λ i d lt. lt-ltb _ _ (pairs 0 (suc i) d (omega arith) (omega arith))))
    (pairs_rising ks (λ i j d lt below. pairs (suc i) (suc j) d (omega arith) (omega arith)))

pub is_rising-says : (ks : List ℕ) → is_rising ks ≡ true → IsStrictlyIncreasing ks
is_rising-says ks e = λ k lt. rising_pairs ks e k (k + 1) 0 (omega arith) lt

pub is_rising-true : (ks : List ℕ) → IsStrictlyIncreasing ks → is_rising ks ≡ true
is_rising-true ks rising = pairs_rising ks (AllPairs-from_increasing ks rising)

-- what a walk of neighbours answers
pub is_rising-answer : (ks : List ℕ) (r : Bool) → IsAllAdjacentAnswer (λ x y b. b ≡ nat_lt x y) ks r → r ≡ is_rising ks
is_rising-answer ks true all = sym (is_rising-true ks (λ k lt. ltb-true _ _ (sym (all k 0 lt))))
is_rising-answer ks false one =
    sym (false_from_ne_true _ (λ e. both_ways _ (sym (one.2 0)) (lt-ltb _ _ (is_rising-says ks e one.0 one.1))))

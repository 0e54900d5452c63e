-- A set and its ranges tell the same.
use Rattle.cpu_set.specs.Ids.{Ids}
use Rattle.cpu_set.specs.Members.{InRange}
use Rattle.cpu_set.specs.PointwiseLaws.{same_members}
use Rattle.cpu_set.specs.RangeLaws.{AreRuns-ranges_among}
use Rattle.cpu_set.specs.Ranges.{AreRuns, in_ranges}
use Rattle.cpu_set.specs.declared.TheConstants.{CPU_LIMIT}
use Rattle.std.proofs.Common.{Bool, List, [], ap, arith, get_or, length, refl, subst, suc, sym, true, zero, ℕ, ◌&&◌, ◌+◌, ◌<◌, ◌∙◌, ◌∷◌, ◌≡◌}
use Rattle.std.proofs.lemmas.Bool.{and_from, le-leb, or_left, or_right}
use Rattle.std.proofs.lemmas.Bool.Decides.{nat_tests}
use Rattle.std.specs.Prelude.{All, nat_lt}
use Rattle.tagged_sets.specs.RangeSetLaws.{among_all, contains-ranges, in_ranges-set}
use Rattle.tagged_sets.specs.Tagged.{IsOfSet, ranges_of_set, set_of_ranges}
use Rattle.std.specs.FinSet as set

within : (q n : ℕ) (b : Bool) → (b ≡ true → q < n) → (nat_lt q n && (nat_lt q n && b)) ≡ b
within q n b f = grind (arith, nat_tests)

-- the set of a set's ranges is that set
pub set_again : (s : Ids) → InRange s → set_of_ranges (ranges_of_set s) ≡ s
set_again s low =
    same_members _ _ (λ q. contains-ranges (ranges_of_set s) q ∙ ap (λ b. nat_lt q CPU_LIMIT && b) (in_ranges-set s q) ∙ within q CPU_LIMIT _ (low q))

pub are_of_set : (s : Ids) → InRange s → IsOfSet (ranges_of_set s)
are_of_set s low = ap ranges_of_set (set_again s low)

below_limit : (q n : ℕ) (b : Bool) → (nat_lt q n && b) ≡ true → q < n
below_limit q n b e = grind (arith, nat_tests)

pub in_range-ranges : (ranges : List (ℕ × ℕ)) → InRange (set_of_ranges ranges)
in_range-ranges ranges q member = below_limit q CPU_LIMIT _ (sym (contains-ranges ranges q) ∙ member)

-- the last number of a range is in it
ends_in : (from : ℕ) (rs : List (ℕ × ℕ)) → AreRuns from rs → All (λ r. in_ranges rs r.1 ≡ true) rs
ends_in from rs runs k d lt = at from rs runs k d lt
  where
    at : (from : ℕ) (rs : List (ℕ × ℕ)) → AreRuns from rs → (k : ℕ) (d : ℕ × ℕ) → k < length rs → in_ranges rs (get_or rs k d).1 ≡ true
    at from [] runs k d lt = absurd (omega arith)
    at from (r ∷ more) runs zero d lt = or_left _ _ (and_from _ _ (le-leb r.0 r.1 (omega (arith, runs.1))) (le-leb r.1 r.1 (omega arith)))
    at from (r ∷ more) runs (suc k) d lt = or_right _ _ (at (r.1 + 2) more runs.2 k d (omega arith))

runs_at : (s : Ids) (n : ℕ) → n ≡ CPU_LIMIT → AreRuns 0 (ranges_of_set s)
runs_at s n e = subst (AreRuns 0) (sym (among_all s n e)) (AreRuns-ranges_among (set.contains s) 0 n)

-- the ranges of a set rise, and do not touch
pub runs_of_set : (s : Ids) → AreRuns 0 (ranges_of_set s)
runs_of_set s = runs_at s CPU_LIMIT refl

-- the range's last number is below the limit
abbrev pub IsBelow : ℕ × ℕ → Type 0
IsBelow r = r.1 < CPU_LIMIT

-- all numbers in the ranges of a set are below the limit
pub below_of_set : (s : Ids) → All IsBelow (ranges_of_set s)
below_of_set s k d lt =
    let r : ℕ × ℕ = get_or (ranges_of_set s) k d in
    below_limit r.1 CPU_LIMIT _ (sym (in_ranges-set s r.1) ∙ ends_in 0 (ranges_of_set s) (runs_of_set s) k d lt)

pub below_if_of_set : (ranges : List (ℕ × ℕ)) → IsOfSet ranges → All IsBelow ranges
below_if_of_set ranges of = subst (All IsBelow) of (below_of_set (set_of_ranges ranges))

-- the set with the numbers of a set's ranges is that set
pub set_of_its_ranges : (s t : Ids) (ranges : List (ℕ × ℕ)) → InRange t → ranges ≡ ranges_of_set t → ((q : ℕ) → set.contains s q ≡ in_ranges ranges q) → s ≡ t
set_of_its_ranges s t ranges low e same =
    same_members s t (λ q. same q ∙ ap (λ rs. in_ranges rs q) e ∙ in_ranges-set t q ∙ once q CPU_LIMIT _ (low q))
  where
    once : (q n : ℕ) (b : Bool) → (b ≡ true → q < n) → (nat_lt q n && b) ≡ b
    once q n b f = grind (arith, nat_tests)

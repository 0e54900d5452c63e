-- The ranges of a set and the set of ranges have the same numbers.
use Rattle.std.proofs.Common.{Bool, List, ap, arith, refl, sym, ℕ, ◌&&◌, ◌+◌, ◌∙◌, ◌≡◌}
use Rattle.std.proofs.lemmas.Bool.Decides.{nat_tests}
use Rattle.std.specs.Prelude.{nat_le, nat_lt}
use Rattle.std.specs.FinSet as set
use Rattle.cpu_set.specs.Ids.{Ids}
use Rattle.cpu_set.specs.RangeLaws.{in_ranges-among, members_ranges, ranges_among, ranges_from-is}
use Rattle.cpu_set.specs.Ranges.{in_ranges}
use Rattle.cpu_set.specs.ThoseLemmas.{contains-those}
use Rattle.cpu_set.specs.declared.TheConstants.{CPU_LIMIT}
use Rattle.tagged_sets.specs.Tagged.{IsOfSet, ranges_of_set, set_of_ranges}

pub among_all : (s : Ids) (n : ℕ) → n ≡ CPU_LIMIT → ranges_of_set s ≡ ranges_among (set.contains s) 0 n
unfolding ranges_of_set
among_all s n e = members_ranges s n e ∙ ranges_from-is s 0 n (omega arith)

pub contains-ranges : (ranges : List (ℕ × ℕ)) (q : ℕ) → set.contains (set_of_ranges ranges) q ≡ (nat_lt q CPU_LIMIT && in_ranges ranges q)
unfolding set_of_ranges
contains-ranges ranges q = contains-those (in_ranges ranges) CPU_LIMIT q

in_at : (s : Ids) (n q : ℕ) → n ≡ CPU_LIMIT → in_ranges (ranges_of_set s) q ≡ (nat_lt q n && set.contains s q)
in_at s n q e =
    ap (λ rs. in_ranges rs q) (among_all s n e) ∙ in_ranges-among (set.contains s) 0 n q ∙ from_zero n q (set.contains s q)
  where
    from_zero : (n q : ℕ) (b : Bool) → ((nat_le 0 q && nat_lt q (0 + n)) && b) ≡ (nat_lt q n && b)
    from_zero n q b = grind (arith, nat_tests)

-- the ranges of a set have its numbers below the limit
pub in_ranges-set : (s : Ids) (q : ℕ) → in_ranges (ranges_of_set s) q ≡ (nat_lt q CPU_LIMIT && set.contains s q)
in_ranges-set s q = in_at s CPU_LIMIT q refl

twice : (q n : ℕ) (a b : Bool) → a ≡ (nat_lt q n && b) → b ≡ (nat_lt q n && a) → b ≡ a
twice q n a b e f = grind (arith, nat_tests)

-- ranges of a set have the numbers of the set that is made of them
pub in_of_set : (ranges : List (ℕ × ℕ)) → IsOfSet ranges → (q : ℕ) → set.contains (set_of_ranges ranges) q ≡ in_ranges ranges q
in_of_set ranges of q =
    twice q CPU_LIMIT _ _ (sym (ap (λ rs. in_ranges rs q) of) ∙ in_ranges-set (set_of_ranges ranges) q) (contains-ranges ranges q)

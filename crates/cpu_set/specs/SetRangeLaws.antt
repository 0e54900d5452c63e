-- The ranges of a set, one after another, from the first member to the last.
use Rattle.std.proofs.Common.{not, ◌&&◌, Bool, false, nat_lt, length, unwrap_or, inl, inr, ◌≡◌, ℕ, ◌+◌, ◌-◌, ◌<◌, ◌≤◌, true, List, ◌∷◌, MatchOption, IfSome, Option, Some, None, sym, ap, ◌∙◌, refl, arith}
use Rattle.std.proofs.lemmas.Bool.{cases_eq}
use Rattle.std.proofs.lemmas.Bool.Decides.{nat_tests}
use Rattle.std.specs.FinSet as set
use Rattle.cpu_set.specs.Ids.{Ids, NoneFrom, IsFirstFrom}
use Rattle.cpu_set.specs.Members.{IsCpu, IsComplement, members}
use Rattle.cpu_set.specs.Ranges.{ranges_of}
use Rattle.cpu_set.specs.RangesFrom.{ranges_from, ranges_left, IsRangeOf}
use Rattle.cpu_set.specs.RangeLaws.{ranges_among, ranges_skip, ranges_none_among, ranges_more, ranges_from-is, members_ranges}
use Rattle.cpu_set.specs.declared.TheConstants.{CPU_LIMIT}

-- the least member at or above a number begins the ranges from there on
pub from_next : (s : Ids) (from : ℕ) (next : Option ℕ) → from ≤ CPU_LIMIT → MatchOption next (NoneFrom s from) (IsFirstFrom s from) → IfSome next IsCpu
    → ranges_from s from ≡ ranges_left s next
from_next s from None low h below =
    ranges_from-is s from (CPU_LIMIT - from) (omega arith) ∙ ranges_none_among (set.contains s) from (CPU_LIMIT - from) (λ m lo hi. h m lo)
from_next s from (Some n) low h below =
    let above : from ≤ n = h.above in
    let at : from + (n - from) ≡ n = omega arith in
    ranges_from-is s from (CPU_LIMIT - from) (omega arith)
    ∙ ranges_skip (set.contains s) from (n - from) (CPU_LIMIT - from) (CPU_LIMIT - n) (omega arith) (λ m lo hi. h.least m lo (omega arith))
    ∙ ap (λ m. ranges_among (set.contains s) m (CPU_LIMIT - n)) at ∙ sym (ranges_from-is s n (CPU_LIMIT - n) (omega arith))

-- a whole range, and the ranges above it
pub from_range : (s : Ids) (first last : ℕ) → IsRangeOf s first last → ranges_from s first ≡ (first, last) ∷ ranges_from s (last + 1)
from_range s first last h =
    let rising : first ≤ last = h.rising in
    let below : last < CPU_LIMIT = h.in_range in
    ranges_from-is s first (CPU_LIMIT - first) (omega arith)
    ∙ ranges_more (set.contains s) first last (last - first) (CPU_LIMIT - first) (CPU_LIMIT - (last + 1)) (omega arith) (omega arith) h.whole (λ left. h.longest (omega arith))
    ∙ ap (λ rs. (first, last) ∷ rs) (sym (ranges_from-is s (last + 1) (CPU_LIMIT - (last + 1)) (omega arith)))

-- the ranges from the first member on are all of them
pub ranges_first : (s : Ids) (next : Option ℕ) → MatchOption next (NoneFrom s 0) (IsFirstFrom s 0) → IfSome next IsCpu → ranges_left s next ≡ ranges_of (members s)
ranges_first s next h below = sym (members_ranges s CPU_LIMIT refl ∙ from_next s 0 next (omega arith) h below)

within : (n : ℕ) (b : Bool) → n < CPU_LIMIT → (nat_lt n CPU_LIMIT && not b) ≡ false → b ≡ true
within n b lt e = grind (arith, nat_tests)

not_within : (n : ℕ) (b : Bool) → (nat_lt n CPU_LIMIT && not b) ≡ true → b ≡ false
not_within n b e = grind (arith, nat_tests)

member_before : (s absent : Ids) (first n : ℕ) → IsComplement s absent → set.contains s first ≡ true → IsCpu n → first ≤ n
    → (first + 1 ≤ n → set.contains absent n ≡ false) → set.contains s n ≡ true
member_before s absent first n lacks member is_cpu le gone =
    elim (cases_eq first n) [
      | inl e ↦ ap (set.contains s) (sym e) ∙ member
      | inr ne ↦ within n _ is_cpu (sym (lacks n) ∙ gone (omega arith))
    ]

-- a range goes up to the first number that the set lacks
pub range_found :
    (s absent : Ids) (first last : ℕ) (gap : Option ℕ) → IsComplement s absent → IsCpu first → set.contains s first ≡ true
    → MatchOption gap (NoneFrom absent (first + 1)) (IsFirstFrom absent (first + 1)) → IfSome gap IsCpu → last ≡ unwrap_or gap CPU_LIMIT
    → IsRangeOf s first (last - 1)
range_found s absent first last None lacks is_cpu member none below e = record {
  rising = omega arith;
  in_range = omega arith;
  whole = λ n le upto. member_before s absent first n lacks member (omega arith) le (λ more. none n more);
  longest = λ more. absurd (omega arith);
}
range_found s absent first last (Some gap) lacks is_cpu member is below e =
    let above : first + 1 ≤ gap = is.above in
    let at : last - 1 + 1 ≡ gap = omega arith in
    record {
      rising = omega arith;
      in_range = omega arith;
      whole = λ n le upto. member_before s absent first n lacks member (omega arith) le (λ more. is.least n more (omega arith));
      longest = λ more. ap (set.contains s) at ∙ not_within gap _ (sym (lacks gap) ∙ is.member);
    }

-- one range, and those that are left
pub ranges_next :
    (s : Ids) (first last : ℕ) (next : Option ℕ) → IsRangeOf s first last
    → MatchOption next (NoneFrom s (last + 1)) (IsFirstFrom s (last + 1)) → IfSome next IsCpu
    → ranges_left s (Some first) ≡ (first, last) ∷ ranges_left s next
ranges_next s first last next range h below =
    let past : last + 1 ≤ CPU_LIMIT = omega (arith, range.in_range) in
    from_range s first last range ∙ ap (λ rs. (first, last) ∷ rs) (from_next s (last + 1) next past h below)

-- one range fewer is left
pub one_fewer : (left rest : List (ℕ × ℕ)) (r : ℕ × ℕ) → left ≡ r ∷ rest → length rest < length left
one_fewer left rest r e = rw e (omega arith)

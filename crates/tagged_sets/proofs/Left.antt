-- The ranges of a set that are left, while they are added one after another.
use Rattle.cpu_set.specs.SetRangeLaws.{range_found, ranges_next}
use Rattle.cpu_set.specs.Ids.{Ids, IsFirstFrom, NoneFrom}
use Rattle.cpu_set.specs.Members.{IsComplement, IsCpu}
use Rattle.cpu_set.specs.RangesFrom.{AreLeft, ranges_left}
use Rattle.cpu_set.specs.declared.TheConstants.{CPU_LIMIT}
use Rattle.std.proofs.Common.{IfSome, List, MatchOption, None, Option, Some, [], ap, arith, length, sym, take, unwrap_or, ℕ, ◌++◌, ◌+◌, ◌-◌, ◌∙◌, ◌∷◌, ◌≡◌}
use Rattle.std.proofs.lemmas.List.{append_assoc, length-take, take-append-le}

-- what is left from the next number on, if there is one
pub left_from : (s absent : Ids) (from : ℕ) (next : Option ℕ) → IsComplement s absent → MatchOption next (NoneFrom s from) (IsFirstFrom s from) → IfSome next IsCpu
    → AreLeft s absent next
left_from s absent from None lacks first below = record { lacks = lacks; in_range = tt; member = tt }
left_from s absent from (Some n) lacks first below = record { lacks = lacks; in_range = below; member = first.member }

-- one range fewer
pub left_less :
    (s absent : Ids) (first last : ℕ) (next gap after : Option ℕ) → AreLeft s absent next → next ≡ Some first
    → MatchOption gap (NoneFrom absent (first + 1)) (IsFirstFrom absent (first + 1)) → IfSome gap IsCpu → last ≡ unwrap_or gap CPU_LIMIT
    → MatchOption after (NoneFrom s (last - 1 + 1)) (IsFirstFrom s (last - 1 + 1)) → IfSome after IsCpu
    → ranges_left s next ≡ (first, last - 1) ∷ ranges_left s after
left_less s absent first last next gap after left is lacks gap_below ends follows below =
    ap (ranges_left s) is
    ∙ ranges_next s first (last - 1) after (range_found s absent first last gap left.lacks (rw is at left.in_range) (rw is at left.member) lacks gap_below ends) follows below

-- one range more is added
pub added_more : (all added left rest : List (ℕ × ℕ)) (r : ℕ × ℕ) → added ++ left ≡ all → left ≡ r ∷ rest → (added ++ r ∷ []) ++ rest ≡ all
added_more all added left rest r are is = append_assoc added (r ∷ []) rest ∙ ap (λ rs. added ++ rs) (sym is) ∙ are

-- and those that were there before stay
pub still_there : (was added : List (ℕ × ℕ)) (r : ℕ × ℕ) (n : ℕ) → take n added ≡ was → n ≡ length was → take n (added ++ r ∷ []) ≡ was
still_there was added r n are long = take-append-le n added (r ∷ []) (omega (arith, length-take n added, ap length are)) ∙ are

-- The text of a set, range by range.
use Rattle.std.proofs.Common.{◌≡◌, ℕ, List, [], ◌∷◌, ◌++◌, refl, sym, ap, ◌∙◌, append_assoc}
use Rattle.cpu_set.specs.Ids.{Ids}
use Rattle.cpu_set.specs.Members.{members}
use Rattle.cpu_set.specs.Ranges.{ranges_of}
use Rattle.cpu_set.specs.RangesFrom.{ranges_from}
use Rattle.cpu_set.specs.RangeLaws.{members_ranges}
use Rattle.cpu_set.specs.declared.TheConstants.{CPU_LIMIT}
use Rattle.cpu_list.specs.CanonicalList.{range_text, ranges_text, list_text}
use Rattle.cpu_list.specs.TextAfter.{text_after}
use Rattle.cpu_list.proofs.RangeText.{text_after-nil}

-- the text of a set is that of its ranges from 0 on
pub list_text-is : (s : Ids) → list_text s ≡ text_after [] (ranges_from s 0)
unfolding list_text
list_text-is s = ap ranges_text (members_ranges s CPU_LIMIT refl) ∙ sym (text_after-nil (ranges_from s 0))

-- the text of a set is that of all its ranges
pub text_whole : (s : Ids) → list_text s ≡ text_after [] (ranges_of (members s))
unfolding list_text
text_whole s = sym (text_after-nil (ranges_of (members s)))

pub text_left : (left rest : List (ℕ × ℕ)) (r : ℕ × ℕ) (separator : List ℕ) → left ≡ r ∷ rest
    → text_after separator left ≡ (separator ++ range_text r) ++ text_after (44 ∷ []) rest
text_left left rest r separator e =
    ap (text_after separator) e ∙ sym (append_assoc separator (range_text r) (text_after (44 ∷ []) rest))

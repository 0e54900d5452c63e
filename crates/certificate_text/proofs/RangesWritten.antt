-- The text of a set by its ranges.
use Rattle.std.proofs.Common.{◌≡◌, ℕ, List, ap}
use Rattle.cpu_set.specs.Ids.{Ids}
use Rattle.cpu_list.specs.CanonicalList.{ranges_text, list_text}
use Rattle.tagged_sets.specs.Tagged.{ranges_of_set}

pub ranges_text-is : (ranges : List (ℕ × ℕ)) (s : Ids) → ranges ≡ ranges_of_set s → ranges_text ranges ≡ list_text s
unfolding list_text ranges_of_set
ranges_text-is ranges s e = ap ranges_text e

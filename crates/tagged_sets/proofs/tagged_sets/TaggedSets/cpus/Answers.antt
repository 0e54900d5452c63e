use Rattle.tagged_sets.proofs.Sets.{set_of_its_ranges}
use Rattle.tagged_sets.proofs.tagged_sets.TaggedSets.cpus.Goals as goal

pub set_of-requires : goal.set_of-requires
set_of-requires g c = c.ranges-then-is_empty.ensures.below

pub returns-then-is_empty : goal.returns-then-is_empty
returns-then-is_empty g c d = set_of_its_ranges _ _ _ (c.ranges-then-is_empty.ensures.in_range d) (c.ranges-then-is_empty.ensures.ranges d) c.set_of.ensures

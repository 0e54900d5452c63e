use Rattle.tagged_sets.proofs.Sets.{set_of_its_ranges}
use Rattle.tagged_sets.proofs.tagged_sets.kept_or_made.Goals as goal

pub set_of-requires : goal.set_of-requires
set_of-requires g c = c.ranges-in-None.ensures.below

pub returns-in-None : goal.returns-in-None
returns-in-None g c d = set_of_its_ranges _ _ _ (c.ranges-in-None.ensures.in_range d) (c.ranges-in-None.ensures.ranges d) c.set_of.ensures

use Rattle.std.proofs.Common.{sym}
use Rattle.tagged_sets.proofs.Sets.{below_if_of_set, in_range-ranges, set_of_its_ranges}
use Rattle.tagged_sets.specs.Tagged.{set_of_ranges}
use Rattle.tagged_sets.proofs.tagged_sets.keep_made.Goals as goal

pub set_of-requires : goal.set_of-requires
set_of-requires c = below_if_of_set c.args.ranges.now c.requires

pub returns-clause-ok : goal.returns-clause-ok
returns-clause-ok c =
    c.keep_same.ensures.ok (set_of_ranges c.args.ranges.now)
    (set_of_its_ranges _ _ _ (in_range-ranges c.args.ranges.now) (sym c.requires) c.set_of.ensures)

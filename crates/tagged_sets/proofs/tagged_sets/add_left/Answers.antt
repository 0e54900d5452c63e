use Rattle.std.proofs.Common.{rules}
use Rattle.tagged_sets.specs.Tagged.{set_of_ranges}
use Rattle.tagged_sets.proofs.tagged_sets.add_left.Goals as goal

pub returns-clause-kept : goal.returns-clause-kept
returns-clause-kept c =
    let may = c.keep_left.ensures.ok (set_of_ranges c.args.more.now) c.requires.kept in search rules

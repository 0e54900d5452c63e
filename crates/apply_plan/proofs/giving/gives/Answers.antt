use Rattle.apply_plan.specs.DirectedLemmas.{found_at}
use Rattle.apply_plan.specs.TellLemmas.{overview_tells}
use Rattle.apply_plan.proofs.giving.gives.Goals as goal

pub has_either-requires-clause-tells : goal.has_either-requires-clause-tells
has_either-requires-clause-tells g c =
    overview_tells (g.K.Kernel.state c.args.kernel.now) c.args.reserved.now c.args.entries.now c.args.seen.now c.args.entry.now c.requires.valid
    (found_at c.args.entries.now c.args.place c.args.entry.now c.requires.valid.groups c.requires.within c.requires.at) c.requires.seen

use Rattle.apply_plan.specs.DirectedLemmas.{found_at}
use Rattle.direct_finish.proofs.sight.standing_of.Goals as goal

pub outer_standing-requires-clause-at : goal.outer_standing-requires-clause-at
outer_standing-requires-clause-at g c = found_at c.args.entries.now c.args.place c.args.entry.now c.requires.valid.groups c.requires.within c.requires.at

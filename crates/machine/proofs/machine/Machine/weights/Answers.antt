use Rattle.std.proofs.Common.{sym, ◌∙◌}
use Rattle.machine.proofs.Reaching.{AreLocal-all}
use Rattle.machine.proofs.machine.Machine.weights.Goals as goal

pub returns-then-is_subset-clause-weights : goal.returns-then-is_subset-clause-weights
returns-then-is_subset-clause-weights c =
    AreLocal-all _ _ c.nodes.result _ c.nodes.ensures.sound c.requires c.nodes.ensures.each
    (sym c.is_subset.ensures ∙ c.if-is_subset.true) c.local_weights.ensures

use Rattle.transport.proofs.Classes.{firsts_once, first_is_cpu}
use Rattle.transport.proofs.solver.assigned.Goals as goal

pub new-requires-clause-once : goal.new-requires-clause-once
new-requires-clause-once c = firsts_once _ _ c.requires.grouping

pub new-requires-clause-in_range : goal.new-requires-clause-in_range
new-requires-clause-in_range c = first_is_cpu _ _ c.requires.grouping

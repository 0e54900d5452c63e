use Rattle.node.proofs.AskingLemmas.{all_there}
use Rattle.node.proofs.node.Node.problem.Goals as goal

pub rows_in-requires-clause-placed : goal.rows_in-requires-clause-placed
rows_in-requires-clause-placed g c = all_there _ c.self.invariant.node

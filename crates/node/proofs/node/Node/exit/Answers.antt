use Rattle.node.proofs.NodeLemmas.{exit_node}
use Rattle.node.proofs.node.Node.exit.Goals as goal

pub invariant_of-self : goal.invariant_of-self
invariant_of-self g c = record {
  node = exit_node _ c.self.invariant.node _ _ _ c.exit.ensures;
  cpus = c.self.invariant.cpus;
}

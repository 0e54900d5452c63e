use Rattle.node.proofs.NodeLemmas.{fork_node}
use Rattle.node.proofs.node.Node.fork.Goals as goal

pub invariant_of-self : goal.invariant_of-self
invariant_of-self g c = record {
  node = fork_node _ c.self.invariant.node _ _ _ c.fork.ensures;
  cpus = c.self.invariant.cpus;
}

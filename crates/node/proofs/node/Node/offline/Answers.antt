use Rattle.node.proofs.NodeLemmas.{offline_node}
use Rattle.node.proofs.node.Node.offline.Goals as goal

pub invariant_of-self : goal.invariant_of-self
invariant_of-self g c = record {
  node = offline_node _ c.self.invariant.node _ _ _ c.offline.ensures;
  cpus = c.self.invariant.cpus;
}

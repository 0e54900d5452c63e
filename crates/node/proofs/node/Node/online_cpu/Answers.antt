use Rattle.node.proofs.NodeLemmas.{online_node}
use Rattle.node.proofs.node.Node.online_cpu.Goals as goal

pub invariant_of-self : goal.invariant_of-self
invariant_of-self g c = record {
  node = online_node _ c.self.invariant.node _ _ _ c.online_cpu.ensures;
  cpus = c.self.invariant.cpus;
}

use Rattle.node.specs.Viewed.{all_seen}
use Rattle.node.proofs.FreeLemmas.{KeptSoFar}
use Rattle.node.proofs.free_cpus.kept_in.Given as goal

abbrev pub invariant-loop-container : goal.invariant-loop-container
invariant-loop-container g l = KeptSoFar (g.K.Kernel.state l.kernel) l.pinned l.asked (all_seen l.containers.entries) (all_seen l.container-iterator) l.kept

use Rattle.std.proofs.Common.{inr}
use Rattle.node.proofs.launch.write_sets.Goals as goal

pub returns : goal.returns
returns g c = inr (tt, g.K.Kernel.state c.write_cpus.new.self, c.in_ok-write_cpus.ensures, c.write_mems.ensures)

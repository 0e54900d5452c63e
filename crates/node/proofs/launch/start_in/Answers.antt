use Rattle.std.proofs.Common.{inr}
use Rattle.node.proofs.launch.start_in.Goals as goal

pub returns : goal.returns
returns g c = inr (tt, g.K.Kernel.state c.write_sets.new.kernel, c.in_ok-write_sets.ensures, c.spawn.ensures)

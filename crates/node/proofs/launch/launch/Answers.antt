use Rattle.std.proofs.Common.{inr}
use Rattle.node.proofs.launch.launch.Goals as goal

pub returns-in-Err : goal.returns-in-Err
returns-in-Err g c = inr (c.in_ok-group.group, g.K.Kernel.state c.find_or_make.new.kernel, c.in_ok-group.ensures, c.in-Err.ensures)

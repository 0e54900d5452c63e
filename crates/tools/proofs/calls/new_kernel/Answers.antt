-- A new kernel is as it began.
use Rattle.tools.specs.StartLemmas.{begins}
use Rattle.tools.proofs.calls.new_kernel.Goals as goal

pub returns : goal.returns
returns c = begins _ _ _ _ _ c.in_ok-kernel.kernel c.in_ok-kernel.ensures

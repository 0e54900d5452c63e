use Rattle.kernel_doubles.specs.FuseLemmas.{each}
use Rattle.kernel_doubles.proofs.fused_kernel.FusedKernel.is_set.Goals as goal

pub returns : goal.returns
returns g c = each c.args.self.now.fuse c.args.self.now.trace.calls (g.K.Kernel.state c.args.self.now.inner) c.args.self.now.behind

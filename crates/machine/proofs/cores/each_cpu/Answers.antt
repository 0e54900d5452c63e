use Rattle.std.proofs.Common.{refl, arith}
use Rattle.machine.proofs.Marking.{AreOwn-none, AreOwn-more}
use Rattle.machine.proofs.cores.each_cpu.Goals as goal

pub loop-cpu-init : goal.loop-cpu-init
loop-cpu-init c = AreOwn-none _ refl

pub loop-cpu-preserved : goal.loop-cpu-preserved
loop-cpu-preserved c = AreOwn-more _ _ _ c.loop-cpu.invariant (omega (arith, c.loop-cpu-test.true)) refl

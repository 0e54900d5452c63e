use Rattle.std.proofs.Common.{arith}
use Rattle.machine.proofs.Lacking.{IsTaken-first, IsTaken-more, IsTaken-all}
use Rattle.machine.proofs.machine.Machine.take_core.Goals as goal

pub loop-next-init : goal.loop-next-init
loop-next-init c = IsTaken-first c.args.self.now c.args.core c.args.cpus.now c.requires.lowest

pub loop-next-preserved : goal.loop-next-preserved
loop-next-preserved c = IsTaken-more _ _ _ _ _ _ _ c.loop-next.invariant c.loop-next-test.true c.remove.ensures c.sibling_of-next.ensures

pub returns-clause-gone : goal.returns-clause-gone
returns-clause-gone c = IsTaken-all _ _ _ _ _ c.loop-next.invariant (λ lt. omega (arith, lt, c.loop-next-test.false))

pub returns-clause-others : goal.returns-clause-others
returns-clause-others c = c.loop-next.invariant.others

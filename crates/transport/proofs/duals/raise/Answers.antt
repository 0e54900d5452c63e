use Rattle.std.proofs.Common.{refl, subst}
use Rattle.std.proofs.lemmas.List.{take_all}
use Rattle.transport.proofs.Numbers.{raised_none, raised_more}
use Rattle.transport.specs.Numbers.{IsRaised}
use Rattle.transport.proofs.duals.raise.Goals as goal

pub loop-k-init : goal.loop-k-init
loop-k-init c = raised_none c.args.numbers.now c.args.order.now c.args.by

pub loop-k-preserved : goal.loop-k-preserved
loop-k-preserved c =
    raised_more _ _ _ _ _ _ c.loop-k.invariant c.loop-k-test.true refl c.requires.once c.requires.within

pub returns : goal.returns
returns c = subst (λ order. IsRaised c.args.numbers.now c.loop-k.numbers order c.args.by) (take_all _ _ c.loop-k-test.false) c.loop-k.invariant

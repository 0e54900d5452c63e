use Rattle.std.proofs.Common.{sym, ◌∙◌, arith}
use Rattle.machine.proofs.CoreSets.{has_all, lacks_one}
use Rattle.machine.proofs.machine.Machine.has_core.Goals as goal

pub returns-then-not-contains : goal.returns-then-not-contains
returns-then-not-contains c =
    sym (lacks_one c.args.self.now c.args.core c.args.cpus.now c.loop-next.next c.core_at.ensures.sound.cores c.loop-next.invariant c.loop-next-test.true
    (sym c.contains.ensures ∙ c.if-not-contains.true))

pub returns : goal.returns
returns c =
    sym (has_all c.args.self.now c.args.core c.args.cpus.now c.loop-next.next c.core_at.ensures.in_range
    (sym c.core_at.ensures.is ∙ c.if-core_at-core.false) c.loop-next.invariant (λ lt. omega (arith, lt, c.loop-next-test.false)))

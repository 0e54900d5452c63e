use Rattle.std.proofs.Common.{◌≡◌, sym, ◌∙◌}
use Rattle.node.proofs.OpeningLemmas.{single_plan}
use Rattle.node.proofs.opening.shown_cpus.Goals as goal

pub returns-then-threads-eq1 : goal.returns-then-threads-eq1
returns-then-threads-eq1 c =
    let one : c.args.machine.now.threads ≡ 1 = sym c.threads.ensures.is ∙ c.if-threads-eq1.true in
    sym (single_plan c.args.machine.now c.threads.ensures.sound one c.args.plan.now c.requires.plan)

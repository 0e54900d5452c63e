use Rattle.std.proofs.Common.{◌≡◌, ◌+◌, ◌-◌, ◌<◌, length, sym, ◌∙◌, arith}
use Rattle.std.proofs.lemmas.Bool.{ne_eqb}
use Rattle.apply_plan.specs.NextLemmas.{step_on}
use Rattle.apply_plan.proofs.rings.stands_in_ring.Goals as goal

pub loop-step-preserved : goal.loop-step-preserved
loop-step-preserved c =
    let inside : c.loop-step.at < length c.args.nexts.now = omega arith in
    let one : length c.args.nexts.now - c.loop-step._step ≡ (length c.args.nexts.now - (c.loop-step._step + 1)) + 1 = omega arith in
    sym (step_on c.args.nexts.now c.args.place (length c.args.nexts.now - c.loop-step._step) (length c.args.nexts.now - (c.loop-step._step + 1)) c.loop-step.at one inside
    (ne_eqb c.loop-step.at c.args.place c.if-at-place.false))
    ∙ c.loop-step.invariant

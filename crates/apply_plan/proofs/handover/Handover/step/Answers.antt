use Rattle.std.proofs.Common.{refl}
use Rattle.apply_plan.specs.HandoverLemmas.{at_most_two, step_safe, step_lowers, step_between, step_done, step_counts, step_makes, step_keeps}
use Rattle.apply_plan.proofs.handover.Handover.step.Goals as goal

pub returns : goal.returns
returns g c =
    let old = g.K.Kernel.state c.args.kernel.now in
    let new = g.K.Kernel.state c.step_body.new.kernel in
    let h = c.args.self.now in
    let a = c.step_body.ensures in
    record {
      same = refl;
      step = a.step;
      safe = step_safe h a.valid old new c.requires c.step_body.result a.step;
      done = step_done h a.valid old new c.requires c.step_body.result a.step a.placed;
      few = at_most_two h old;
      lowers = step_lowers h a.valid old new c.requires c.step_body.result a.step;
      made = step_makes h a.valid old new c.requires c.step_body.result a.step;
      between = λ first. step_between h a.valid old new c.requires first c.step_body.result a.step;
      counted = step_counts h a.valid old new c.requires c.step_body.result a.step;
      rest = step_keeps h a.valid old new c.requires c.step_body.result a.step;
      placed = a.placed;
    }

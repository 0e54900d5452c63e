use Rattle.apply_plan.specs.DirectLemmas.{few_left}
use Rattle.apply_plan.specs.DirectStepLemmas.{step_safe, step_lowers, step_on_way, step_done, step_counts, step_makes, step_keeps}
use Rattle.apply_plan.specs.SqueezeLemmas.{step_squeezes}
use Rattle.apply_plan.proofs.direct_handover.DirectHandover.step.Goals as goal

pub returns : goal.returns
returns g c =
    let old = g.K.Kernel.state c.args.kernel.now in
    let new = g.K.Kernel.state c.step_body.new.kernel in
    let d = c.args.self.now in
    let least = g.C.Cores.least_of c.args.cores.now in
    let a = c.step_body.ensures in
    let valid = a.valid.handover in
    record {
      same = a.same;
      step = a.step;
      safe = step_safe d valid least a.serves old new c.requires c.step_body.result a.step;
      done = step_done d valid least a.serves old new c.requires c.step_body.result a.step a.placed;
      few = few_left d.targets old;
      lowers = step_lowers d valid least a.serves old new c.requires c.step_body.result a.step;
      made = step_makes d valid least a.serves old new c.requires c.step_body.result a.step;
      on_way = λ first. step_on_way d valid least a.serves old new c.requires first c.step_body.result a.step;
      squeezes = step_squeezes d valid least a.serves old c.requires new c.step_body.result a.step;
      counted = step_counts d valid least a.serves old new c.requires c.step_body.result a.step;
      rest = step_keeps d valid least a.serves old new c.requires c.step_body.result a.step;
      placed = a.placed;
    }

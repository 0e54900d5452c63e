use Rattle.node.proofs.OrderLemmas.{both_leave}
use Rattle.node.proofs.StepLemmas.{says, broken_off, counts}
use Rattle.node.specs.ToldLemmas.{step_is_told}
use Rattle.node.proofs.node.Node.step.Goals as goal

pub returns : goal.returns
returns g c =
    let law = both_leave in
    let old = c.args.self.now in
    let new = c.step_body.new.self in
    let r = c.step_body.result in
    let done = c.step_body.ensures.steps in
    record {
      steps = done;
      few = c.step_body.ensures.few;
      falls = λ e o was. (says law old c.holds.ensures o was r new done).falls e;
      told = step_is_told old r new done;
      made = λ o was. (says law old c.holds.ensures o was r new done).made;
      done = λ e o was. (says law old c.holds.ensures o was r new done).done e;
      squeezes = λ o was. (says law old c.holds.ensures o was r new done).squeezes;
      way = λ o was. (says law old c.holds.ensures o was r new done).way;
      broken = broken_off law old c.holds.ensures r new done;
      counted = counts law old c.holds.ensures r new done;
    }

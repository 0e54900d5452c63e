use Rattle.std.proofs.Common.{◌≤◌, length, arith}
use Rattle.apply_plan.specs.NextLemmas.{some_at}
use Rattle.direct_finish.proofs.calm.next_giving.Goals as goal

pub returns-then-full-standings-clause-turn : goal.returns-then-full-standings-clause-turn
returns-then-full-standings-clause-turn c =
    let past : length c.args.standings.now ≤ c.first_due-roomy.result = c.if-roomy-standings.false in
    let its = some_at c.args.standings.now c.first_due-full.result c.if-full-standings.true in (
      (λ j s less within is. c.first_due-roomy.ensures.before j s (omega (arith, past, within)) within is),
      record {
        within = c.if-full-standings.true;
        s = its.0;
        is = its.1.1;
        due = c.first_due-full.ensures.here its.0 c.if-full-standings.true its.1.1;
        before = c.first_due-full.ensures.before;
      },
    )

use Rattle.std.proofs.Common.{◌≡◌, ap, sym, ◌∙◌, length}
use Rattle.certificate.specs.Cost.{cost}
use Rattle.certificate.specs.IsProved.{IsProved}
use Rattle.twins.specs.IsPriced.{class_prices}
use Rattle.transport.proofs.Pricing.{solved_plan, is_proved, rows_at, bottleneck_at}
use Rattle.transport.proofs.solver.planned.Goals as goal
use Rattle.transport.proofs.solver.planned.Goals.{In_ok-of_cpu}

pub deal-requires-clause-rows : goal.deal-requires-clause-rows
deal-requires-clause-rows c =
    rows_at c.args.problem.now c.args.classes.now c.args.assignment c.args.turns c.requires.grouping c.requires.done c.deref.result.now (length c.as_slice-rows.result.now)
    c.deref.ensures.value (sym (ap length (c.as_slice-rows.ensures.value ∙ c.problem.view_is)))

pub deal-requires-clause-room : goal.deal-requires-clause-room
deal-requires-clause-room c =
    bottleneck_at c.args.problem.now c.args.classes.now c.args.assignment c.args.turns c.requires.grouping c.requires.done c.deref.result.now c.deref.ensures.value

-- the CPUs that are dealt are a plan, which the values and prices prove
proved : (c : In_ok-of_cpu) → IsProved c.as_slice-rows.result.now c.in_ok-sets.sets.items (record { values = c.args.assignment.values.items; of_cpu = c.in_ok-of_cpu.of_cpu })
    (cost c.args.problem.now c.in_ok-sets.sets.items)
proved c =
    let rows_are : c.as_slice-rows.result.now ≡ c.args.problem.now = c.as_slice-rows.ensures.value ∙ c.problem.view_is in
    let as_many = c.in_ok-sets.ensures.long ∙ ap length rows_are in
    rw rows_are
    (is_proved c.args.problem.now c.args.classes.now c.args.assignment c.args.turns c.requires.grouping c.requires.done
    c.deref.result.now c.in_ok-sets.sets.items c.in_ok-of_cpu.of_cpu c.deref.ensures.value c.requires.fit c.in_ok-sets.ensures.dealt as_many
    (c.in_ok-of_cpu.ensures ∙ ap (class_prices c.args.classes.now) c.deref-2.ensures.value)
    c.classes_prove_plans.ensures)

pub proved_cost-total-requires : goal.proved_cost-total-requires
proved_cost-total-requires c = (c.in_ok-sets.sets.items, cost c.args.problem.now c.in_ok-sets.sets.items, proved (goal.at.proved_cost-total-requires c).In_ok-of_cpu)

pub returns-clause-solved : goal.returns-clause-solved
returns-clause-solved c =
    let rows_are : c.as_slice-rows.result.now ≡ c.args.problem.now = c.as_slice-rows.ensures.value ∙ c.problem.view_is in
    solved_plan c.args.problem.now c.args.classes.now c.args.assignment c.args.turns c.requires.grouping c.requires.done
    c.deref.result.now c.in_ok-sets.sets.items c.in_ok-of_cpu.of_cpu c.proved_cost-total.result c.deref.ensures.value c.requires.fit
    c.in_ok-sets.ensures.dealt
    (c.in_ok-sets.ensures.long ∙ ap length rows_are)
    (c.in_ok-of_cpu.ensures ∙ ap (class_prices c.args.classes.now) c.deref-2.ensures.value)
    (c.proved_cost-total.ensures _ _ (proved (goal.at.returns-clause-solved c).In_ok-of_cpu))
    c.classes_prove_plans.ensures c.deals_of_twins_are_dealt.ensures c.no_plan_is_below_a_bound.ensures.least

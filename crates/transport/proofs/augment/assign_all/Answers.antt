use Rattle.std.proofs.Common.{◌≡◌, ℕ, ◌+◌, ◌++◌, List, length, take, sym, ◌∙◌, subst, arith}
use Rattle.std.proofs.lemmas.List.{take-append-le, take_all}
use Rattle.transport.specs.declared.arcs.SortedArcs.{SortedArcs}
use Rattle.transport.specs.Outcomes.{IsOutcome, IsOutcomeWithin}
use Rattle.transport.specs.Assigning.{CanAssign, AreAssigned, IsRowAssigned}
use Rattle.transport.proofs.Assigning.{assigned_first, can_assign, assigned_more, stuck_at_end, late_in_row, done_at_end, limit_raised, limit_reached, limit_of_all}
use Rattle.transport.proofs.augment.assign_all.Goals as goal

pub loop-row-init : goal.loop-row-init
loop-row-init c =
    let first = assigned_first _ _ _ _ c.requires.fit c.requires.kinds c.requires.classes c.in_ok-assignment.ensures c.in_ok-arcs_by_kind.ensures in
    (first, rw (first.values_long, first.prices_long) c.in_ok-tree.ensures, omega arith, omega arith, omega arith, λ low. omega arith)

pub assign_row-requires-clause-can : goal.assign_row-requires-clause-can
assign_row-requires-clause-can c =
    subst (λ arcs_by_kind. CanAssign c.args.instance.now c.loop-row.row c.loop-row.assignment arcs_by_kind c.loop-row.turns) (sym c.deref_mut.ensures.value)
    (can_assign _ _ _ _ _ _ c.loop-row.invariant.0 c.requires.fit c.loop-row-test.true c.requires.few (λ g. omega (arith, c.type_inv.sizes g)))

pub returns-in-Blocked-clause-outcome : goal.returns-in-Blocked-clause-outcome
returns-in-Blocked-clause-outcome c =
    subst (IsOutcome c.args.instance.now.rows.now c.args.instance.now.firsts c.args.sizes.now c.args.limit) (sym c.stuck.ensures)
    (stuck_at_end _ _ _ _ _ _ c.loop-row.invariant.0 c.requires.fit c.loop-row-test.true _ _ _
    (subst (IsRowAssigned c.args.instance.now c.loop-row.row c.loop-row.most c.loop-row.assignment c.assign_row.new.assignment c.assign_row.new.arcs_by_kind c.assign_row.new.tree c.loop-row.turns c.assign_row.new.turns) c.in-Blocked.is c.in_ok-assign_row.ensures.assigned))

pub returns-in-BrokenOff-clause-outcome : goal.returns-in-BrokenOff-clause-outcome
returns-in-BrokenOff-clause-outcome c =
    let p = subst (IsRowAssigned c.args.instance.now c.loop-row.row c.loop-row.most c.loop-row.assignment c.assign_row.new.assignment c.assign_row.new.arcs_by_kind c.assign_row.new.tree c.loop-row.turns c.assign_row.new.turns) c.in-BrokenOff.is c.in_ok-assign_row.ensures.assigned in
    let can = can_assign _ _ _ _ _ _ c.loop-row.invariant.0 c.requires.fit c.loop-row-test.true c.requires.few (λ g. omega (arith, c.type_inv.sizes g)) in
    late_in_row _ _ _ _ _ _ c.loop-row.invariant.0 c.requires.fit c.loop-row-test.true c.args.limit _ _ _ _ can.fits c.loop-row.invariant.5 p.0 p.1

pub assign_row-requires-clause-few : goal.assign_row-requires-clause-few
assign_row-requires-clause-few c = omega (arith, c.loop-row.invariant.4, c.loop-row.invariant.0.values_long, c.loop-row.invariant.0.prices_long)

pub returns-in-Blocked-clause-limited : goal.returns-in-Blocked-clause-limited
returns-in-Blocked-clause-limited c =
    subst (IsOutcomeWithin c.args.instance.now.rows.now c.args.sizes.now c.args.limit) (sym c.stuck.ensures)
    (limit_of_all _ _ _ _ _ _ (omega (arith, c.loop-row-test.true)) c.loop-row.invariant.3
    (omega (arith, c.in_ok-assign_row.ensures.limited, c.loop-row.invariant.0.values_long, c.loop-row.invariant.0.prices_long)))

-- the sorted arcs behind the slice are those that the call left
written : (n : ℕ) (new rest : List SortedArcs) → n ≡ length new → take n (new ++ rest) ≡ new
written n new rest long = take-append-le n new rest (omega (arith, long)) ∙ take_all n new (omega (arith, long))

pub loop-row-preserved : goal.loop-row-preserved
loop-row-preserved c =
    let p = subst (IsRowAssigned c.args.instance.now c.loop-row.row c.loop-row.most c.loop-row.assignment c.assign_row.new.assignment c.assign_row.new.arcs_by_kind c.assign_row.new.tree c.loop-row.turns c.assign_row.new.turns) c.in-Met.is c.in_ok-assign_row.ensures.assigned in (
      subst (λ arcs_by_kind. AreAssigned c.args.instance.now c.args.sizes.now c.assign_row.new.assignment arcs_by_kind (c.loop-row.row + 1) c.assign_row.new.turns)
          (sym (written _ _ _ (omega (arith, c.loop-row.arcs_by_kind.ok.0, c.loop-row.invariant.0.sorted.long, p.0.sorted.long))))
          (assigned_more _ _ _ _ _ _ c.loop-row.invariant.0 c.requires.fit c.loop-row-test.true _ _ _ p.0 p.1),
      p.2,
      omega (arith, c.raised-most.ensures.at_least, c.loop-row.invariant.2),
      limit_raised _ _ c.index-instance-row.result _ _ _ c.loop-row-test.true c.loop-row.invariant.3 c.raised-most.ensures.at_most,
      omega (arith, c.raised-most.ensures.at_least, c.in_ok-assign_row.ensures.limited, c.loop-row.invariant.0.values_long, c.loop-row.invariant.0.prices_long),
      λ low. limit_reached _ _ c.index-instance-row.result _ _ _ c.loop-row-test.true
          (c.loop-row.invariant.5 (omega (arith, low, c.raised-most.ensures.at_least))) (c.raised-most.ensures.exact low),
    )

pub returns-clause-outcome : goal.returns-clause-outcome
returns-clause-outcome c = done_at_end _ _ _ _ _ _ c.loop-row.invariant.0 (omega (arith, c.loop-row-test.false, c.loop-row.auto.row-end))

pub returns-clause-limited : goal.returns-clause-limited
returns-clause-limited c = limit_of_all _ _ _ _ _ _ (omega (arith, c.loop-row-test.false, c.loop-row.auto.row-end)) c.loop-row.invariant.3 c.loop-row.invariant.4

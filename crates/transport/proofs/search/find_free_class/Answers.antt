use Rattle.std.proofs.Common.{◌≡◌, ◌<◌, true, length, ap, subst, arith}
use Rattle.transport.specs.ReachedRows.{is_reached, row_at}
use Rattle.transport.specs.declared.tree.ReachedRows.{ReachedRows}
use Rattle.transport.specs.Sought.{AreSought}
use Rattle.transport.proofs.Seeking.{sought_more}
use Rattle.transport.proofs.Labelling.{better_same, better_more}
use Rattle.transport.proofs.Scanning.{row_read, row_in, arcs_of_kind, kind_in, all_sorted_set}
use Rattle.transport.proofs.search.find_free_class.Goals as goal
use Rattle.transport.proofs.search.find_free_class.Goals.{After-index-row}

pub loop-at-init : goal.loop-at-init
loop-at-init c = record { arcs_by_kind = c.requires.arcs_by_kind; better = better_same _ _ _ c.requires.running; sought = λ i d above below. absurd (omega (arith, above, below)) }

in_order : (c : After-index-row) → c.loop-at.at < length c.loop-at.tree.reached_rows.order.items
in_order c = omega (arith, c.loop-at-test.true, c.len-at-end.ensures, c.args.tree.now.reached_rows.order.ok.0, ap (λ (q : ReachedRows). length q.order.items) c.loop-at.invariant.better.reached_rows)

at_place : (c : After-index-row) → row_at c.loop-at.tree.reached_rows c.loop-at.at ≡ c.index-row.result.now
at_place c = (row_read _ _ c.loop-at.tree c.loop-at.at c.index-row.result.now c.loop-at.invariant.better.running (in_order c) c.index-row.ensures).0

reached : (c : After-index-row) → is_reached c.loop-at.tree.reached_rows c.index-row.result.now ≡ true
reached c = (row_read _ _ c.loop-at.tree c.loop-at.at c.index-row.result.now c.loop-at.invariant.better.running (in_order c) c.index-row.ensures).1

in_arcs : (c : After-index-row) → c.index-row.result.now < length c.loop-at.arcs_by_kind
in_arcs c =
    let lt = row_in _ _ c.loop-at.tree c.index-row.result.now c.loop-at.invariant.better.running (reached c) in
    omega (arith, lt, c.requires.rows, c.loop-at.invariant.arcs_by_kind.long)

in_kinds : (c : After-index-row) → c.index-row.result.now < length c.args.instance.now.kinds.now
in_kinds c = omega (arith, in_arcs c, c.loop-at.invariant.arcs_by_kind.long, c.requires.arcs_by_kind.kinds.long)

pub bounds-instance-row : goal.bounds-instance-row
bounds-instance-row c = in_kinds (goal.at.bounds-instance-row c).After-index-row

pub offset_bounds-instance-row : goal.offset_bounds-instance-row
offset_bounds-instance-row c =
    let i = (goal.at.offset_bounds-instance-row c).After-index-row in
    omega (arith, in_kinds i, c.requires.arcs_by_kind.kinds.long, c.requires.rows, c.requires.running.fit.few)

pub bounds-arcs_by_kind-kind : goal.bounds-arcs_by_kind-kind
bounds-arcs_by_kind-kind c = kind_in _ _ _ _ c.loop-at.invariant.arcs_by_kind (in_arcs (goal.at.bounds-arcs_by_kind-kind c).After-index-row)

pub offset_bounds-arcs_by_kind-kind : goal.offset_bounds-arcs_by_kind-kind
offset_bounds-arcs_by_kind-kind c =
    let i = (goal.at.offset_bounds-arcs_by_kind-kind c).After-index-row in
    omega (arith, kind_in _ _ _ _ c.loop-at.invariant.arcs_by_kind (in_arcs i), c.loop-at.invariant.arcs_by_kind.long, c.requires.rows, c.requires.running.fit.few)

pub find_free_class_of-requires : goal.find_free_class_of-requires
find_free_class_of-requires c =
    let i = (goal.at.find_free_class_of-requires c).After-index-row in
    record {
      running = c.loop-at.invariant.better.running;
      row = omega (arith, in_arcs i, c.loop-at.invariant.arcs_by_kind.long);
      there = reached i;
      sorted_arcs = arcs_of_kind _ _ _ _ _ c.loop-at.invariant.arcs_by_kind (in_arcs i);
    }

pub returns-in-Some-clause-arcs_by_kind : goal.returns-in-Some-clause-arcs_by_kind
returns-in-Some-clause-arcs_by_kind c =
    all_sorted_set _ _ _ _ _ c.loop-at.invariant.arcs_by_kind (in_arcs (goal.at.returns-in-Some-clause-arcs_by_kind c).After-index-row) c.in_ok-find_free_class_of.ensures.sorted_arcs

pub returns-in-Some-clause-better : goal.returns-in-Some-clause-better
returns-in-Some-clause-better c = better_more _ _ _ _ _ c.loop-at.invariant.better c.in_ok-find_free_class_of.ensures.better

pub loop-at-preserved : goal.loop-at-preserved
loop-at-preserved c = record {
  arcs_by_kind = all_sorted_set _ _ _ _ _ c.loop-at.invariant.arcs_by_kind (in_arcs (goal.at.loop-at-preserved c).After-index-row) c.in_ok-find_free_class_of.ensures.sorted_arcs;
  better = better_more _ _ _ _ _ c.loop-at.invariant.better c.in_ok-find_free_class_of.ensures.better;
  sought = (let i = (goal.at.loop-at-preserved c).After-index-row in
      let e = c.in_ok-find_free_class_of.ensures in
      sought_more c.args.instance.now c.args.assignment.now c.loop-at.tree c.find_free_class_of.new.tree c.loop-at.arcs_by_kind c.index-row.result.now _ _ e.better.reached_rows e.nearer (kind_in _ _ _ _ c.loop-at.invariant.arcs_by_kind (in_arcs i)) _ c.loop-at.at (at_place i) e.further e.sought c.loop-at.invariant.sought);
}

pub returns : goal.returns
returns c =
    let e : c.loop-at.at ≡ length c.loop-at.tree.reached_rows.order.items =
    omega (arith, c.loop-at-test.false, c.loop-at.auto.at-end, c.requires.from, c.len-at-end.ensures, c.args.tree.now.reached_rows.order.ok.0, ap (λ (q : ReachedRows). length q.order.items) c.loop-at.invariant.better.reached_rows) in
    record {
      arcs_by_kind = c.loop-at.invariant.arcs_by_kind;
      better = c.loop-at.invariant.better;
      free_end = tt;
      sought = subst (λ n. AreSought c.args.instance.now c.args.assignment.now c.loop-at.tree c.loop-at.arcs_by_kind c.args.from n) e c.loop-at.invariant.sought;
    }

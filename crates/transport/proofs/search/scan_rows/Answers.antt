use Rattle.std.proofs.Common.{◌≡◌, ◌<◌, true, length, ap, sym, subst, arith}
use Rattle.std.proofs.lemmas.Result.{on_ok_weaker}
use Rattle.transport.specs.Blocks.{AreTakenFirsts}
use Rattle.transport.specs.ReachedRows.{is_reached, row_at}
use Rattle.transport.specs.Weights.{weights}
use Rattle.transport.specs.States.{HasScanned}
use Rattle.transport.specs.declared.tree.ReachedRows.{ReachedRows}
use Rattle.transport.proofs.Labelling.{better_same, better_more, scanned_better}
use Rattle.transport.proofs.Seeking.{no_further_is, sought_at, sought_kept}
use Rattle.transport.proofs.Scanning.{scanned_more, row_read, row_in, arcs_of_kind, kind_in, all_sorted_set}
use Rattle.transport.proofs.search.scan_rows.Goals as goal
use Rattle.transport.proofs.search.scan_rows.Goals.{After-index-row}

pub loop-at-init : goal.loop-at-init
loop-at-init c = record { arcs_by_kind = c.requires.arcs_by_kind; better = better_same _ _ _ c.requires.running; sought = c.requires.sought; scanned = c.requires.scanned }

in_order : (c : After-index-row) → c.loop-at.at < length c.loop-at.tree.reached_rows.order.items
in_order c = omega (arith, c.loop-at-test.true, c.len-at-end.ensures, c.args.tree.now.reached_rows.order.ok.0, ap (λ (q : ReachedRows). length q.order.items) c.loop-at.invariant.better.reached_rows)

read : (c : After-index-row) → (row_at c.loop-at.tree.reached_rows c.loop-at.at ≡ c.index-row.result.now) × (is_reached c.loop-at.tree.reached_rows c.index-row.result.now ≡ true)
read c = row_read _ _ c.loop-at.tree c.loop-at.at c.index-row.result.now c.loop-at.invariant.better.running (in_order c) c.index-row.ensures

in_arcs : (c : After-index-row) → c.index-row.result.now < length c.loop-at.arcs_by_kind
in_arcs c =
    let lt = row_in _ _ c.loop-at.tree c.index-row.result.now c.loop-at.invariant.better.running (read c).1 in
    omega (arith, lt, c.requires.rows, c.loop-at.invariant.arcs_by_kind.long)

in_kinds : (c : After-index-row) → c.index-row.result.now < length c.args.instance.now.kinds.now
in_kinds c = omega (arith, in_arcs c, c.loop-at.invariant.arcs_by_kind.long, c.requires.arcs_by_kind.kinds.long)

pub bounds-instance-row : goal.bounds-instance-row
bounds-instance-row c = in_kinds (goal.at.bounds-instance-row c).After-index-row

pub offset_bounds-instance-row : goal.offset_bounds-instance-row
offset_bounds-instance-row c =
    let i = (goal.at.offset_bounds-instance-row c).After-index-row in
    omega (arith, in_kinds i, c.requires.arcs_by_kind.kinds.long, c.requires.rows, c.requires.running.fit.few)

pub bounds-arcs_by_kind-kind : goal.bounds-arcs_by_kind-kind
bounds-arcs_by_kind-kind c = kind_in _ _ _ _ c.loop-at.invariant.arcs_by_kind (in_arcs (goal.at.bounds-arcs_by_kind-kind c).After-index-row)

pub offset_bounds-arcs_by_kind-kind : goal.offset_bounds-arcs_by_kind-kind
offset_bounds-arcs_by_kind-kind c =
    let i = (goal.at.offset_bounds-arcs_by_kind-kind c).After-index-row in
    omega (arith, kind_in _ _ _ _ c.loop-at.invariant.arcs_by_kind (in_arcs i), c.loop-at.invariant.arcs_by_kind.long, c.requires.rows, c.requires.running.fit.few)

pub scan_by_arcs-requires : goal.scan_by_arcs-requires
scan_by_arcs-requires c =
    let i = (goal.at.scan_by_arcs-requires c).After-index-row in
    record {
      running = c.loop-at.invariant.better.running;
      row = omega (arith, in_arcs i, c.loop-at.invariant.arcs_by_kind.long);
      there = (read i).1;
      sorted_arcs = arcs_of_kind _ _ _ _ _ c.loop-at.invariant.arcs_by_kind (in_arcs i);
      sought = sought_at c.args.instance.now c.args.assignment.now c.loop-at.tree c.loop-at.arcs_by_kind c.args.from (length c.args.tree.now.reached_rows.order.items) c.loop-at.at c.index-row.result.now _ c.loop-at.invariant.sought (omega arith) (omega (arith, c.loop-at-test.true, c.len-at-end.ensures, c.args.tree.now.reached_rows.order.ok.0)) (read i).0;
    }

pub loop-at-preserved : goal.loop-at-preserved
loop-at-preserved c =
    let i = (goal.at.loop-at-preserved c).After-index-row in
    let b = c.in_ok-seen.ensures in
    record {
      arcs_by_kind = all_sorted_set _ _ _ _ _ c.loop-at.invariant.arcs_by_kind (in_arcs i) b.sorted_arcs;
      better = better_more _ _ _ _ _ c.loop-at.invariant.better b.better;
      sought = sought_kept c.args.instance.now c.args.assignment.now c.loop-at.tree c.scan_by_arcs.new.tree c.loop-at.arcs_by_kind c.index-row.result.now _ _ b.better.reached_rows (no_further_is _ _ _ b.free_end)
          (kind_in _ _ _ _ c.loop-at.invariant.arcs_by_kind (in_arcs i)) _ _ b.further c.loop-at.invariant.sought;
      scanned = scanned_more _ _ _ _ _ c.loop-at.at c.loop-at.invariant.better.running (read i).0 (b.seen c.if-not-seen.false) c.loop-at.invariant.scanned;
    }

pub scan_by_blocks-requires : goal.scan_by_blocks-requires
scan_by_blocks-requires c =
    let i = (goal.at.scan_by_blocks-requires c).After-index-row in
    let b = c.in_ok-seen.ensures in
    let same = better_more _ _ _ _ _ c.loop-at.invariant.better b.better in
    let kept =
    sought_kept c.args.instance.now c.args.assignment.now c.loop-at.tree c.scan_by_arcs.new.tree c.loop-at.arcs_by_kind c.index-row.result.now _ _ b.better.reached_rows (no_further_is _ _ _ b.free_end)
    (kind_in _ _ _ _ c.loop-at.invariant.arcs_by_kind (in_arcs i)) _ _ b.further c.loop-at.invariant.sought in
    record {
      running = b.better.running;
      rows = c.requires.rows;
      arcs_by_kind = all_sorted_set _ _ _ _ _ c.loop-at.invariant.arcs_by_kind (in_arcs i) b.sorted_arcs;
      from = omega (arith, in_order i, ap (λ (q : ReachedRows). length q.order.items) b.better.reached_rows);
      scanned = scanned_better _ _ _ _ _ b.better c.loop-at.invariant.scanned;
      taken = subst (AreTakenFirsts c.args.instance.now.firsts c.args.taken_firsts.now) (sym same.tree_classes) c.requires.taken;
      sought = λ j d above below. kept j d (omega (arith, above)) (omega (arith, below, ap (λ (q : ReachedRows). length q.order.items) same.reached_rows));
    }

pub returns-then-not-seen : goal.returns-then-not-seen
returns-then-not-seen c = record {
  arcs_by_kind = c.scan_by_blocks.ensures.arcs_by_kind;
  better = on_ok_weaker c.scan_by_blocks.result (λ b. better_more _ _ _ _ _ c.loop-at.invariant.better (better_more _ _ _ _ _ c.in_ok-seen.ensures.better b)) c.scan_by_blocks.ensures.better;
  scanned = c.scan_by_blocks.ensures.scanned;
}

pub returns : goal.returns
returns c =
    let e : c.loop-at.at ≡ length c.loop-at.tree.reached_rows.order.items =
    omega (arith, c.loop-at-test.false, c.loop-at.auto.at-end, c.requires.from, c.len-at-end.ensures, c.args.tree.now.reached_rows.order.ok.0, ap (λ (q : ReachedRows). length q.order.items) c.loop-at.invariant.better.reached_rows) in
    record {
      arcs_by_kind = c.loop-at.invariant.arcs_by_kind;
      better = c.loop-at.invariant.better;
      scanned = subst (λ n. HasScanned (weights c.args.instance.now) c.args.assignment.now c.loop-at.tree n) e c.loop-at.invariant.scanned;
    }

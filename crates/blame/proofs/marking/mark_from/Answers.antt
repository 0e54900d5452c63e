use Rattle.std.proofs.Common.{◌≡◌, ℕ, ◌<◌, is_some, length, ap, ◌∙◌, arith}
use Rattle.std.specs.FinSet as set
use Rattle.certificate.specs.RowView.{RowView}
use Rattle.certificate.specs.Weight.{weight, weight_in}
use Rattle.blame.proofs.MarkingLemmas.{none_seen, queued_row, marked_below, open_to_row}
use Rattle.blame.proofs.marking.mark_from.Goals as goal

pub loop-step-init : goal.loop-step-init
loop-step-init c = record {
  marking = λ members owned known_are.
      none_seen c.args.rows.now members c.args.part.now.own.items c.args.part.now.root c.args.known.now c.empty-seen.result c.args.of_row.now
      c.requires.long known_are c.empty-seen.ensures c.requires.none;
  queued = c.requires.queued;
  long = c.requires.as_long;
  as_rows = c.requires.long;
}

pub bounds-rows-next : goal.bounds-rows-next
bounds-rows-next c =
    let on = queued_row c.loop-step.known c.loop-step.queue.items c.loop-step.step c.index-next.result.now c.loop-step.invariant.queued
    (omega (arith, c.if-step-count.false, c.len-count.ensures, c.loop-step.queue.ok.0)) c.index-next.ensures in
    omega (arith, marked_below c.loop-step.known c.index-next.result.now on, c.loop-step.invariant.as_rows)

pub offset_bounds-rows-next : goal.offset_bounds-rows-next
offset_bounds-rows-next c =
    let on = queued_row c.loop-step.known c.loop-step.queue.items c.loop-step.step c.index-next.result.now c.loop-step.invariant.queued
    (omega (arith, c.if-step-count.false, c.len-count.ensures, c.loop-step.queue.ok.0)) c.index-next.ensures in
    omega (arith, marked_below c.loop-step.known c.index-next.result.now on, c.loop-step.invariant.as_rows, c.requires.few)

pub loop-step-preserved : goal.loop-step-preserved
loop-step-preserved c =
    let was = c.loop-step.invariant in
    let on = queued_row c.loop-step.known c.loop-step.queue.items c.loop-step.step c.index-next.result.now was.queued
    (omega (arith, c.if-step-count.false, c.len-count.ensures, c.loop-step.queue.ok.0)) c.index-next.ensures in
    let lt : c.index-next.result.now < length c.args.rows.now = omega (arith, marked_below c.loop-step.known c.index-next.result.now on, was.as_rows) in
    let its : (q : ℕ) → set.contains c.cpus-cpus.result q ≡ is_some (weight c.index-rows-next.result q) =
    λ q. c.cpus-cpus.ensures q ∙ ap (λ offers. is_some (weight_in offers q)) (ap (λ (r : RowView). r.offers) c.row.view_is) in
    record {
      marking = λ members owned known_are.
          c.in_ok-see_row.ensures.marking c.args.rows.now members owned (was.marking members owned known_are)
          (open_to_row c.args.rows.now c.loop-step.known c.cpus-cpus.result c.index-next.result.now c.index-rows-next.result on lt c.index-rows-next.is its);
      queued = c.in_ok-see_row.ensures.queued was.queued;
      long = omega (arith, was.long, c.see_row.auto.known, c.see_row.auto.of_row);
      as_rows = omega (arith, was.as_rows, c.see_row.auto.known);
    }

pub returns-then-step-count : goal.returns-then-step-count
returns-then-step-count c = λ members owned known_are. (c.loop-step.invariant.marking members owned known_are).known_are

pub returns : goal.returns
returns c = λ members owned known_are. (c.loop-step.invariant.marking members owned known_are).known_are

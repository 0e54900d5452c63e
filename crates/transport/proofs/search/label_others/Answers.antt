use Rattle.std.proofs.Common.{◌≡◌, ℕ, true, false, Bool, Option, arith}
use Rattle.transport.specs.Searches.{is_taken}
use Rattle.transport.specs.Scans.{arc_at, CanLabelArcs}
use Rattle.transport.proofs.Numbers.{read_mark}
use Rattle.transport.proofs.Labelling.{others_start, others_more, others_taken, others_past, past_rise, past_of, arc_can, limit_same}
use Rattle.transport.proofs.search.label_others.Goals as goal
use Rattle.transport.proofs.search.label_others.Goals.{Joined-not-index, then-not-index+in_ok-label_arc, else-not-index}

pub loop-at-init : goal.loop-at-init
loop-at-init c = record { labelled = λ ws can. others_start ws _ _ _ _ _ can.running }

-- the mark of the arc's class
mark : (c : Joined-not-index) (ws : ℕ → ℕ → Option ℕ) (b : Bool) → CanLabelArcs ws c.args.assignment.now c.args.tree.now c.args.scan.row c.args.arcs.now c.args.upto → c.index.result.now ≡ b
    → is_taken c.loop-at.tree.tree_classes (arc_at c.args.arcs.now c.loop-at.at).class ≡ b
mark c ws b can e =
    let run = (c.loop-at.invariant.labelled ws can).better.running in
    read_mark _ _ _ _ _ (run.fit.class _ _ _ (can.weighs c.loop-at.at c.loop-at-test.true)) run.search.taken_long c.index.ensures e

pub loop-at-preserved : goal.loop-at-preserved
loop-at-preserved c =
    elim c.if-not-index.branch [
      | then-not-index+in_ok-label_arc w ↦
          rw w.tree-is
          (record {
            labelled = λ ws can.
                let h = c.loop-at.invariant.labelled ws can in
                others_more ws _ _ _ _ _ c.args.arcs.now _ _ h
                (w.in_ok-label_arc.ensures.labelled ws (arc_can ws _ _ _ _ c.args.arcs.now _ _ _ can h c.loop-at-test.true (mark c ws false can w.if-not-index.true)));
          })
      | else-not-index w ↦
          rw w.tree-is
          (record { labelled = λ ws can. others_taken ws _ _ _ _ c.args.arcs.now _ _ (c.loop-at.invariant.labelled ws can) (mark c ws true can w.if-not-index.false) })
    ]

pub returns-then-arc-scan : goal.returns-then-arc-scan
returns-then-arc-scan c = λ ws can.
    let limit = c.requires.bound.0 in
    let h = c.loop-at.invariant.labelled ws can in
    others_past ws _ _ _ _ c.args.arcs.now _ c.loop-at.at c.args.upto limit h (limit_same _ _ _ _ _ h.free_end c.requires.bound.1)
    (λ j le lt. past_rise limit _ _ (c.requires.rising c.loop-at.at j le (omega (arith, lt, c.requires.upto))) (past_of limit _ _ c.requires.bound.2 (omega arith) c.if-arc-scan.true))

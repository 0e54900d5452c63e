use Rattle.cpu_set.specs.Ids.{Ids}
use Rattle.cpu_set.specs.RangesFrom.{ranges_from}
use Rattle.std.proofs.Common.{[], ap, append_assoc, arith, sym, ◌++◌, ◌-◌, ◌<◌, ◌∙◌, ◌∷◌, ◌≤◌}
use Rattle.tagged_sets.proofs.Pieces.{IsRun-later, IsStep, cut_nothing, cut_piece, there_behind}
use Rattle.tagged_sets.specs.CutOut.{IsCut, IsRun}
use Rattle.tagged_sets.proofs.cuts.add_cut.Goals as goal
use Rattle.tagged_sets.proofs.cuts.add_cut.Goals.{then-next-end+in_ok-push, else-next-end}

pub loop-next-preserved : goal.loop-next-preserved
loop-next-preserved c =
    let run : IsRun c.args.without.now c.loop-next.next c.run_at.result.first c.run_at.result.end = c.run_at.ensures.run in
    let above : c.loop-next.next < c.run_at.result.end = c.run_at.ensures.above in
    let on : c.loop-next.next ≤ c.min-next.result = omega (arith, above, c.min-next.ensures, c.loop-next-test.true) in
    let step : (t : Ids) → IsCut t c.args.without.now c.args.range.0 c.args.range.1
    → IsStep t c.args.without.now c.args.range.0 c.args.range.1 c.loop-next.next c.run_at.result.first c.run_at.result.end c.min-end.result c.min-next.result =
    λ t cut. record {
      cut = cut;
      run = run;
      after = c.loop-next.invariant.after;
      before = omega (arith, c.loop-next-test.true);
      below = c.requires.below;
      ends = c.min-end.ensures;
      goes_on = c.min-next.ensures;
    } in
    record {
      after = omega (arith, on, c.loop-next.invariant.after);
      before = omega (arith, c.min-next.ensures);
      run = IsRun-later _ _ _ _ _ on run;
      there = elim c.if-next-end.branch [
        | then-next-end+in_ok-push w ↦ rw (w.ranges-is, w.in_ok-push.ensures.items) (there_behind _ _ _ c.loop-next.invariant.there)
        | else-next-end w ↦ rw w.ranges-is c.loop-next.invariant.there
      ];
      added = λ t cut. elim c.if-next-end.branch [
        | then-next-end+in_ok-push w ↦
            rw (w.ranges-is, w.in_ok-push.ensures.items)
            (append_assoc c.loop-next.ranges.items ((c.loop-next.next, c.min-end.result - 1) ∷ []) (ranges_from t c.min-next.result)
            ∙ ap (λ rs. c.loop-next.ranges.items ++ rs) (sym (cut_piece _ _ _ _ _ _ _ _ _ (step t cut) w.if-next-end.true))
            ∙ c.loop-next.invariant.added t cut)
        | else-next-end w ↦
            rw w.ranges-is
            (ap (λ rs. c.loop-next.ranges.items ++ rs) (sym (cut_nothing _ _ _ _ _ _ _ _ _ (step t cut) w.if-next-end.false on))
            ∙ c.loop-next.invariant.added t cut)
      ];
    }

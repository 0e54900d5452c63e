use Rattle.std.proofs.Common.{All, rules, arith, sym, subst}
use Rattle.std.proofs.lemmas.Grind.{common_steps}
use Rattle.std.proofs.lemmas.List.Elements.{All-append}
use Rattle.twins.specs.AreSpans.{IsSpan}
use Rattle.twins.proofs.SpanWeights.{ranges_weigh}
use Rattle.twins.proofs.spans.Spans.note_ranges.Goals as goal

pub loop-at-preserved : goal.loop-at-preserved
loop-at-preserved c = record {
  each = subst (All (IsSpan c.args.offers.now)) (sym c.in_ok-add.ensures)
      (All-append (IsSpan c.args.offers.now) _ _ c.loop-at.invariant.each
      (ranges_weigh c.args.offers.now c.loop-at.at c.weight.result c.ranges-in-loop-at.result.now c.requires.fit (omega arith) c.weight.ensures c.ranges-in-loop-at.ensures.members));
  places = search rules;
  none = grind (arith, common_steps);
  sets = c.loop-at.invariant.sets;
}

use Rattle.std.proofs.Common.{◌≡◌, ℕ, ◌+◌, ◌++◌, [], ◌∷◌, None, Option, List, All, length, get_or, arith, sym, ap, subst, ◌∙◌}
use Rattle.std.proofs.lemmas.List.{length-append}
use Rattle.std.proofs.lemmas.List.Elements.{All-append}
use Rattle.twins.specs.AreSpans.{IsMade, IsOfWeight, IsSpan}
use Rattle.twins.proofs.AtHand.{at_hand_more, made_more}
use Rattle.twins.proofs.SpanWeights.{ranges_weigh}
use Rattle.twins.specs.declared.spans.Spans.{Spans}
use Rattle.twins.proofs.spans.Spans.note_with_sets.Goals.{then-is_none+in_ok-add, else-is_none}
use Rattle.twins.proofs.spans.Spans.note_with_sets.Goals as goal

pub loop-at-preserved : goal.loop-at-preserved
loop-at-preserved c =
    let offers = c.args.offers.now in
    let after = c.add_at_hand.new.sets.items in
    let sets : c.if-is_none.self.sets.items ≡ after = elim c.if-is_none.branch [
      | then-is_none+in_ok-add w ↦ ap (λ (s : Spans). s.sets.items) w.self-is
      | else-is_none w ↦ ap (λ (s : Spans). s.sets.items) w.self-is
    ] in
    let places : c.if-is_none.self.places.items ≡ c.loop-at.self.places.items = elim c.if-is_none.branch [
      | then-is_none+in_ok-add w ↦ ap (λ (s : Spans). s.places.items) w.self-is
      | else-is_none w ↦ ap (λ (s : Spans). s.places.items) w.self-is
    ] in
    let pushed : c.push.new.self.items ≡ c.loop-at.self.places.items ++ c.in_ok-place.place ∷ [] =
    c.in_ok-push.ensures.items ∙ ap (λ (ps : List (Option ℕ)). ps ++ c.in_ok-place.place ∷ []) places in
    record {
      each = elim c.if-is_none.branch [
        | then-is_none+in_ok-add w ↦ subst (λ (s : Spans). All (IsSpan offers) s.items) (sym w.self-is)
            (subst (All (IsSpan offers)) (sym w.in_ok-add.ensures)
            (All-append (IsSpan offers) _ _ c.loop-at.invariant.each
            (ranges_weigh offers c.loop-at.at w.weight.result w.ranges-then-is_none.result.now c.requires.fit (omega arith) w.weight.ensures w.ranges-then-is_none.ensures.members)))
        | else-is_none w ↦ subst (λ (s : Spans). All (IsSpan offers) s.items) (sym w.self-is) c.loop-at.invariant.each
      ];
      places = ap length pushed ∙ length-append c.loop-at.self.places.items (c.in_ok-place.place ∷ []) ∙ ap (λ n. n + 1) c.loop-at.invariant.places;
      made = λ k place noted.
          subst (λ l. IsMade offers l k place) (sym sets)
          (made_more offers c.loop-at.at c.loop-at.self.sets.items after c.loop-at.self.places.items c.in_ok-place.place c.loop-at.invariant.places c.in_ok-place.ensures c.loop-at.invariant.made k place
          (ap (λ ps. get_or ps k None) (sym pushed) ∙ noted));
      at_hand = subst (All (IsOfWeight offers)) (sym sets)
          (at_hand_more offers c.loop-at.at c.loop-at.self.sets.items after c.in_ok-place.place c.in_ok-place.ensures c.loop-at.invariant.at_hand);
    }

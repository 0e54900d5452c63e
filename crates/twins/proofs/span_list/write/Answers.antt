use Rattle.std.proofs.Common.{◌≡◌, ℕ, ◌+◌, ◌<◌, ◌++◌, List, [], ◌∷◌, length, get_or, map, take, arith, append_assoc, sym, ap, ◌∙◌}
use Rattle.std.proofs.Math.ListN.{set}
use Rattle.std.proofs.lemmas.List.{take_more, map-append}
use Rattle.std.proofs.lemmas.Grind.{take-set_at}
use Rattle.twins.specs.SpanCode.{span_of}
use Rattle.twins.specs.declared.span_list.Span.{Span}
use Rattle.twins.proofs.span_list.write.Goals as goal

-- one range more behind those that are written
one_more :
    (before items : List Span) (ranges : List (ℕ × ℕ)) (w from k : ℕ) → from + k < length items → k < length ranges
    → take (from + k) items ≡ before ++ map (span_of w) (take k ranges)
    → take (from + (k + 1)) (set items (from + k) (span_of w (get_or ranges k (0, 0)))) ≡ before ++ map (span_of w) (take (k + 1) ranges)
one_more before items ranges w from k room there so_far =
    let own = span_of w (get_or ranges k (0, 0)) in
    take-set_at items (from + k) (from + (k + 1)) own (omega arith) room
    ∙ ap (λ (l : List Span). l ++ own ∷ []) so_far
    ∙ append_assoc before (map (span_of w) (take k ranges)) (own ∷ [])
    ∙ ap (λ (l : List Span). before ++ l) (sym (ap (map (span_of w)) (take_more ranges k (0, 0) there) ∙ map-append (span_of w) (take k ranges) (get_or ranges k (0, 0) ∷ [])))

pub loop-k-preserved : goal.loop-k-preserved
loop-k-preserved c =
    one_more (take c.args.from c.args.items.now) c.loop-k.items c.args.ranges.now c.args.weight c.args.from c.loop-k.k (omega arith) c.loop-k-test.true c.loop-k.invariant

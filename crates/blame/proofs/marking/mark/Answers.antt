use Rattle.std.proofs.Common.{◌≡◌, length, replicate, rules, ap, ◌∙◌}
use Rattle.std.proofs.lemmas.List.{length-replicate}
use Rattle.blame.proofs.MarkingLemmas.{all_zero}
use Rattle.blame.proofs.marking.mark.Goals as goal

pub mark_from-requires-clause-as_long : goal.mark_from-requires-clause-as_long
mark_from-requires-clause-as_long c =
    let items : c.in_ok-of_row.of_row.items ≡ replicate (length c.args.known.now) 0 = c.in_ok-of_row.ensures.items_if_clones_equal (search rules) in
    ap length (c.as_mut_slice.ensures.value ∙ items) ∙ length-replicate (length c.args.known.now) 0

pub mark_from-requires-clause-none : goal.mark_from-requires-clause-none
mark_from-requires-clause-none c = λ k.
    let items : c.in_ok-of_row.of_row.items ≡ replicate (length c.args.known.now) 0 = c.in_ok-of_row.ensures.items_if_clones_equal (search rules) in
    all_zero c.as_mut_slice.result.now (length c.args.known.now) k (c.as_mut_slice.ensures.value ∙ items)

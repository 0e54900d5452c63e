use Rattle.std.proofs.Common.{ap, arith, get_or, sym, true, ℕ, ◌∙◌, ◌≡◌}
use Rattle.std.proofs.lemmas.List.{get_or_default}
use Rattle.std.specs.FinSet as set
use Rattle.cpu_set.specs.PointwiseLaws.{is_subset-contains}
use Rattle.twins.proofs.AtHand.{of_weight, weighs}
use Rattle.twins.proofs.alike.lie_in_a_set.Goals as goal

pub returns-then-contains : goal.returns-then-contains
returns-then-contains c = λ offers are sub a b in_a in_b.
    let sets = c.args.spans.now.sets.items in
    let s = get_or sets c.in-Some.place set.empty in
    let w = of_weight offers c.args.spans.now c.in-Some.place are c.in-Some.ensures.within in
    let has : (q : ℕ) → set.contains c.args.cpus.now q ≡ true → set.contains s q ≡ true = λ q member.
    ap (λ t. set.contains t q) (sym (c.index-then-contains.ensures ∙ get_or_default sets c.in-Some.place c.index-then-contains.result.now set.empty (omega (arith, c.in-Some.ensures.within, are.within))))
    ∙ is_subset-contains _ _ (sym c.is_subset.ensures ∙ sub) q member in
    weighs offers s w a (has a in_a) ∙ sym (weighs offers s w b (has b in_b))

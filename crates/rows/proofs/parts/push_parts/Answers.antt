use Rattle.std.proofs.Common.{◌≡◌, ◌++◌, ◌≤◌, [], ◌∷◌, List, get_or, true, sym, ap, ◌∙◌, arith}
use Rattle.std.proofs.lemmas.List.Sums.{AllPass-from_list_all}
use Rattle.std.proofs.lemmas.Result.{on_ok_weaker}
use Rattle.certificate.specs.Packed.{packed}
use Rattle.certificate.specs.declared.Offer.{Offer}
use Rattle.rows.specs.Offers.{has_some}
use Rattle.rows.proofs.HeldLemmas.{distance_at, parted_none}
use Rattle.rows.proofs.parts.push_parts.Goals as goal

pub weight-moved-requires : goal.weight-moved-requires
weight-moved-requires c =
    let low : c.from-distance.result ≤ 254 = distance_at _ _ _ c.requires.distances c.requires.place (λ d. c.from-distance.ensures ∙ c.weight.ensures d) in
    omega arith

pub push_cut-requires-clause-moved : goal.push_cut-requires-clause-moved
push_cut-requires-clause-moved c = λ d. c.weight-moved.ensures ∙ ap (λ w. packed w 1) (c.from-distance.ensures ∙ c.weight.ensures d)

pub returns-then-is_unheld : goal.returns-then-is_unheld
returns-then-is_unheld c = λ d.
    let o : Offer = get_or c.args.offers.now c.args.at d in
    let some : has_some o ≡ true = AllPass-from_list_all has_some c.args.offers.now c.requires.some c.args.at d c.requires.place in
    on_ok_weaker c.push_from.result
    (λ pushed. pushed ∙ ap (λ (l : List Offer). c.args.parts.now ++ l)
    (ap (λ w. record { weight = w; cpus = o.cpus } ∷ []) (c.weight-moved.ensures ∙ ap (λ w. packed w 1) (c.from-distance.ensures ∙ c.weight.ensures d))
    ∙ sym (parted_none c.args.held.now o some (c.is_unheld.ensures d c.if-is_unheld.true))))
    (c.push_from.ensures.ok d)

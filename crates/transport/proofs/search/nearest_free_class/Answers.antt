use Rattle.std.proofs.Common.{refl, sym, ap, ◌∙◌, subst}
use Rattle.certificate.specs.RowView.{RowView}
use Rattle.transport.specs.SortedArcs.{IsFoundFreeEnd}
use Rattle.transport.specs.Weights.{weights}
use Rattle.transport.proofs.Scanning.{sorted_as, sorted_back}
use Rattle.twins.specs.KindLaws.{own_offers}
use Rattle.transport.proofs.search.nearest_free_class.Goals as goal

pub nearest_free_class-requires : goal.nearest_free_class-requires
nearest_free_class-requires c =
    let e = ap (λ (r : RowView). r.offers) (c.asked.view_is ∙ sym c.index-instance-row.is) ∙ own_offers _ _ _ c.requires.row c.index-instance-row.is in
    (weights c.args.instance.now c.args.row, sorted_as _ _ _ _ _ _ _ _ e refl c.deref.ensures.value c.requires.sorted_arcs)

pub returns : goal.returns
returns c =
    let e = ap (λ (r : RowView). r.offers) (c.asked.view_is ∙ sym c.index-instance-row.is) ∙ own_offers _ _ _ c.requires.row c.index-instance-row.is in
    let ws = weights c.args.instance.now c.args.row in
    let old = sorted_as ws _ _ _ _ _ _ _ e refl c.deref.ensures.value c.requires.sorted_arcs in
    record {
      sorted_arcs = sorted_back ws _ _ _ _ _ _ _ e refl c.deref.ensures.value (c.in_ok-found.ensures.sorted_arcs ws old);
      found = subst (λ f. IsFoundFreeEnd ws f c.args.limit c.nearest_free_class.new.self c.in_ok-found.found) c.deref.ensures.value (c.in_ok-found.ensures.found ws old);
      further = c.in_ok-found.ensures.further;
    }

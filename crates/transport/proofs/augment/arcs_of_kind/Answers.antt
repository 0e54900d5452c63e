use Rattle.std.proofs.Common.{sym, ap, ◌∙◌, subst, List}
use Rattle.certificate.specs.RowView.{RowView}
use Rattle.certificate.specs.declared.rows.Offer.{Offer}
use Rattle.transport.specs.SortedArcs.{IsNewSortedArcs}
use Rattle.twins.specs.KindLaws.{own_offers}
use Rattle.transport.proofs.augment.arcs_of_kind.Goals as goal

pub returns : goal.returns
returns c = λ first.
    subst (λ (o : List Offer). IsNewSortedArcs o c.in_ok-sorted_arcs.sorted_arcs)
    (ap (λ (r : RowView). r.offers) (c.row.view_is ∙ sym c.index-instance-k.is) ∙ own_offers _ _ _ c.requires.there c.index-instance-k.is) c.in_ok-sorted_arcs.ensures

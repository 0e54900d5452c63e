use Rattle.certificate.specs.OfferLaws.{row_offers_fit}
use Rattle.certificate.proofs.costs.row_cost.Goals as goal

pub offers_cost-requires : goal.offers_cost-requires
offers_cost-requires c = row_offers_fit _ (rw (← c.row.view_is) at c.requires)

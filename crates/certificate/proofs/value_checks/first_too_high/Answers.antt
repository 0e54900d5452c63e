use Rattle.certificate.proofs.TooHigh.{least_same, too_high_is}
use Rattle.certificate.specs.IsOfferTooHigh.{is_offer_too_high}
use Rattle.certificate.specs.PlanFault.{is_too_high}
use Rattle.certificate.specs.RowView.{RowView}
use Rattle.std.proofs.Common.{ap, ◌∙◌}
use Rattle.std.specs.List.{list_any}
use Rattle.certificate.proofs.value_checks.first_too_high.Goals as goal

pub returns : goal.returns
returns c = λ prices are.
    c.first_in_offers.ensures prices are
    ∙ least_same _ (is_too_high prices c.args.row.now c.args.value)
    (λ q. ap (λ offers. list_any (λ o. is_offer_too_high prices c.args.value o q) offers) (ap (λ (r : RowView). r.offers) c.row.view_is)
    ∙ too_high_is prices c.args.row.now c.args.value q c.requires.fits)

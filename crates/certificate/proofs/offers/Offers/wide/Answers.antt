use Rattle.certificate.proofs.OffersKept.{kept_at, length-as_offers}
use Rattle.std.proofs.Common.{ap, arith, get_or, length, subst, ◌≡◌}
use Rattle.std.specs.Prelude.{IfSome}
use Rattle.certificate.proofs.offers.Offers.wide.Goals as goal

pub returns : goal.returns
returns c = λ d.
    subst (λ offers. IfSome c.wide.result (λ cpus. cpus.now ≡ (get_or offers c.args.at d).cpus)) c.self.view_is
    (kept_at (λ cpus. cpus.now) c.self.inside.sets c.args.at c.wide.result d (omega (arith, length-as_offers c.self.inside.sets, ap length c.self.view_is, c.requires)) c.wide.ensures)

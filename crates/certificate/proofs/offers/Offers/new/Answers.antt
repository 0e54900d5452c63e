use Rattle.certificate.proofs.Offering.{rising_none}
use Rattle.certificate.proofs.offers.Offers.new.Goals as goal

pub invariant_of-result : goal.invariant_of-result
invariant_of-result c = rw c.new.ensures rising_none

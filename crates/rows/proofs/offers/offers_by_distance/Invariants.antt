use Rattle.rows.proofs.OfferLemmas.{Offering}
use Rattle.rows.proofs.offers.offers_by_distance.Given as goal

abbrev pub invariant-loop-weight : goal.invariant-loop-weight
invariant-loop-weight l = Offering l.machine l.homes l.cpus l.weight l.offers l.left

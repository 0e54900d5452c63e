use Rattle.twins.proofs.Rounds.{Round}
use Rattle.twins.proofs.dealing.deal_body.Given as goal

abbrev pub invariant-loop-g : goal.invariant-loop-g
invariant-loop-g l = Round l.classes l.holdings l.rows l.sets.items l.g

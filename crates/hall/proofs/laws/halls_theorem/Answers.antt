use Rattle.hall.proofs.Theorem.{halls_theorem}
use Rattle.hall.proofs.laws.halls_theorem.Goals as goal

pub returns : goal.returns
returns c = halls_theorem

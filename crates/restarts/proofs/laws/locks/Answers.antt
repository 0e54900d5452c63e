use Rattle.restarts.proofs.LockLemmas.{runs_take_turns, runs_begin_locked}
use Rattle.restarts.proofs.laws.locks.Goals as goal

pub returns : goal.returns
returns g c = record { turns = runs_take_turns; begin = λ trees. runs_begin_locked (g.T.GroupTrees.finds trees) }

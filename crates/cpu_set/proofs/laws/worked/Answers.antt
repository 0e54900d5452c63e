use Rattle.std.proofs.Common.{[], ◌∷◌}
use Rattle.cpu_set.specs.Members.{cpus}
use Rattle.cpu_set.specs.ListedSetLemmas.{members-listed}
use Rattle.cpu_set.proofs.laws.worked.Goals as goal

pub returns-clause-members : goal.returns-clause-members
unfolding cpus
returns-clause-members c = members-listed (5 ∷ 1 ∷ 2 ∷ 1 ∷ [])

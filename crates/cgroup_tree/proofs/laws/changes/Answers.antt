use Rattle.cgroup_tree.specs.ChangeLemmas.{folders_stand}
use Rattle.cgroup_tree.proofs.laws.changes.Goals as goal

pub returns : goal.returns
returns c = folders_stand

use Rattle.cgroup_tree.specs.StandingLemmas.{writes_stand}
use Rattle.cgroup_tree.proofs.laws.writes.Goals as goal

pub returns : goal.returns
returns c = writes_stand

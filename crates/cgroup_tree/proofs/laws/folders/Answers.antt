use Rattle.cgroup_tree.specs.ApartLemmas.{plain_names_apart}
use Rattle.cgroup_tree.proofs.laws.folders.Goals as goal

pub returns : goal.returns
returns c = plain_names_apart

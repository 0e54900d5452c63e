use Rattle.cpuset_tree.specs.TreeLemmas.{same_is_equal, entry_is_own, grants_all, grants_within}
use Rattle.cpuset_tree.proofs.laws.words.Goals as goal

pub returns : goal.returns
returns c = record { same = same_is_equal; own = entry_is_own; all = grants_all; within = grants_within }

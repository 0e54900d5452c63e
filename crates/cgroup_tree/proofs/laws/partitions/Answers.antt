use Rattle.cgroup_tree.proofs.PartitionLemmas.{stay_below_root, partition_is_own}
use Rattle.cgroup_tree.proofs.laws.partitions.Goals as goal

pub returns : goal.returns
returns c = record { below = stay_below_root; own = partition_is_own }

-- The last of the looks is against it.
use Rattle.std.proofs.lemmas.Result.{err_from_is_err_and}
use Rattle.cgroup_tree.specs.RootLemmas.{partition_refused}
use Rattle.cgroup_tree.proofs.root.memory_of.Goals as goal

pub returns-in_err-look_at_partition-clause-looks : goal.returns-in_err-look_at_partition-clause-looks
returns-in_err-look_at_partition-clause-looks g c =
    let a = c.args in
    let p = err_from_is_err_and c.from_residual-in_err-look_at_partition.result c.from_residual-in_err-look_at_partition.ensures.1 in
    rw (p.1, p.2) (partition_refused (g.T.GroupTrees.finds a.trees.now) a.root.now a.online.now a.nodes.now c.in_ok-memory.memory a.options.partition
    c.in_err-look_at_partition.field-0.0 c.in_ok-look_at_controllers.ensures c.in_ok-look_at_cpus.ensures.looks
    (rw c.in_ok-look_at_cpus.ensures.same at c.in_ok-memory.ensures.looks)
    (rw (c.in_ok-memory.ensures.same, c.in_ok-look_at_cpus.ensures.same) at c.in_err-look_at_partition.ensures.looks))

-- The text is a list of one set alone.
use Rattle.cgroup_tree.specs.RootLemmas.{no_other}
use Rattle.cgroup_tree.proofs.root.nodes_in.Goals as goal

pub returns-else-is_subset : goal.returns-else-is_subset
returns-else-is_subset c =
    no_other c.args.text.now c.in_ok-memory.memory c.args.nodes.now c.is_subset.result c.in_ok-memory.ensures c.is_subset.ensures c.if-is_subset.false

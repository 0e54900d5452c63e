-- The text is a list of one set alone.
use Rattle.cgroup_tree.specs.RootLemmas.{is_just}
use Rattle.cgroup_tree.proofs.root.is_list_of.Goals as goal

pub returns-in-Some : goal.returns-in-Some
returns-in-Some c = is_just c.args.text.now c.in-Some.found c.args.ids.now c.eq.result c.in-Some.ensures c.eq.ensures

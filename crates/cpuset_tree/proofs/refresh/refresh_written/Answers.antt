use Rattle.cpuset_tree.proofs.LeafLemmas.{leaf_kept, leaf_differs}
use Rattle.cpuset_tree.proofs.RefreshLemmas.{OthersGranted-elsewhere}
use Rattle.cpuset_tree.proofs.refresh.refresh_written.Goals as goal

pub returns-then-group-newest_parent-clause-kept : goal.returns-then-group-newest_parent-clause-kept
returns-then-group-newest_parent-clause-kept c =
    let order = c.requires.in_order in
    leaf_kept c.args.resource c.args.groups.now c.pass_group.new.groups c.args.top.now c.args.group c.pass_group.ensures c.args.newest_parent c.if-group-newest_parent.true
    c.requires.here c.requires.granted c.requires.parents order.0 c.args.order.now.items order.1

pub returns-then-group-newest_parent-clause-same : goal.returns-then-group-newest_parent-clause-same
returns-then-group-newest_parent-clause-same c =
    leaf_differs c.args.resource c.args.groups.now c.pass_group.new.groups c.args.top.now c.args.group c.pass_group.ensures

pub refresh-requires-clause-granted : goal.refresh-requires-clause-granted
refresh-requires-clause-granted c =
    OthersGranted-elsewhere c.args.resource c.args.groups.now c.args.top.now c.args.group c.requires.here c.requires.granted

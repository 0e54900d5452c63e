use Rattle.std.proofs.Common.{ap, subst}
use Rattle.std.specs.Prelude.{is_some}
use Rattle.cpuset_tree.specs.TreeState.{TreeState}
use Rattle.cpuset_tree.specs.Kept.{entries_kept}
use Rattle.cpuset_tree.specs.TreeWellFormed.{IsWellFormed}
use Rattle.cpuset_tree.specs.TreeLaws.{RunsUpThePath}
use Rattle.cpuset_tree.specs.WellFormedLemmas.{RunsUpThePath-well_formed}
use Rattle.cpuset_tree.proofs.KeptLemmas.{IsFalling-listed}
use Rattle.cpuset_tree.proofs.tree.Tree.root.Goals as goal

pub returns-clause-well_formed : goal.returns-clause-well_formed
returns-clause-well_formed c =
    let i = c.self.inside in
    subst (λ (s : TreeState). IsWellFormed s) c.self.view_is
    (record { falling = IsFalling-listed i.groups i.next_serial i.order.items c.self.invariant.0.in_order; rooted = ap is_some c.self.invariant.0.rooted })

pub returns-clause-path : goal.returns-clause-path
returns-clause-path c =
    let i = c.self.inside in
    subst (λ (s : TreeState). RunsUpThePath s) c.self.view_is
    (RunsUpThePath-well_formed (record { groups = entries_kept i.groups i.order.items; online = i.online; nodes = i.nodes; next_serial = i.next_serial })
    (IsFalling-listed i.groups i.next_serial i.order.items c.self.invariant.0.in_order))

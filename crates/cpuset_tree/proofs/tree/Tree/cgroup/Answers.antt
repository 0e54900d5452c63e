use Rattle.std.proofs.Common.{sym, ap, ◌∙◌, subst}
use Rattle.std.proofs.lemmas.Option.{same_Some, none-some}
use Rattle.std.specs.Prelude.{Some, None}
use Rattle.cpuset_tree.specs.declared.groups.Cgroup.{Cgroup}
use Rattle.cpuset_tree.specs.TreeState.{TreeState}
use Rattle.cpuset_tree.specs.Groups.{same_group}
use Rattle.cpuset_tree.specs.Kept.{IsKeptOf}
use Rattle.cpuset_tree.proofs.CgroupLemmas.{kept_of, none_kept}
use Rattle.cpuset_tree.proofs.tree.Tree.cgroup.Goals as goal
use Rattle.cpuset_tree.proofs.tree.Tree.cgroup.Goals.{in_default-via-in-Some+else-eq, in_default-via-in_default}

pub returns-in-Some : goal.returns-in-Some
returns-in-Some c =
    let i = c.self.inside in
    subst (λ (s : TreeState). IsKeptOf s c.args.group (Some c.in-Some.kept.now)) c.self.view_is
    (kept_of i.groups i.order.items i.online i.nodes i.root i.next_serial c.args.group c.in-Some.kept.now c.self.invariant.0
    (sym (c.in-Some.ensures)) (sym (c.if-eq.ensures)))

pub returns-in_default : goal.returns-in_default
returns-in_default c =
    let i = c.self.inside in
    subst (λ (s : TreeState). IsKeptOf s c.args.group None) c.self.view_is
    (none_kept i.groups i.order.items i.online i.nodes i.root i.next_serial c.args.group c.self.invariant.0
    (elim c.in_default.branch [
      | in_default-via-in-Some+else-eq w ↦ λ n at.
          ap (λ (x : Cgroup). same_group x.group c.args.group) (sym (same_Some w.in-Some.kept.now n (w.in-Some.ensures ∙ at))) ∙ sym w.if-eq.ensures
      | in_default-via-in_default w ↦ λ n at. absurd (none-some n (w.in_default.ensures ∙ at))
    ]))

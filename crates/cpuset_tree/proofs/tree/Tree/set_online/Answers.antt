use Rattle.cpuset_tree.specs.declared.groups.Resource.TheVariants.{Cpus}
use Rattle.std.proofs.Common.{refl}
use Rattle.cpuset_tree.proofs.PlaceLemmas.{SamePlaces-from_kept}
use Rattle.cpuset_tree.proofs.RefreshLemmas.{IsGranted-kept, OthersGranted-online}
use Rattle.std.specs.Prelude.{is_some}
use Rattle.cpuset_tree.proofs.ParentLemmas.{AreParentsUpTo-same}
use Rattle.std.proofs.Common.{ap, ◌∙◌}
use Rattle.cpuset_tree.specs.TreeState.{TreeState}
use Rattle.cpuset_tree.specs.TreeChanges.{with_online}
use Rattle.cpuset_tree.proofs.WriteLemmas.{SameHeld-from_kept, IsSound-refreshed, listed-kept}
use Rattle.cpuset_tree.proofs.MarkLemmas.{AreMarked-same, SameNames-from_kept}
use Rattle.cpuset_tree.proofs.tree.Tree.set_online.Goals as goal

pub refresh_online-requires-clause-granted : goal.refresh_online-requires-clause-granted
refresh_online-requires-clause-granted c =
    let i = c.self.inside in
    OthersGranted-online i.groups i.order.items i.online i.nodes i.root i.next_serial c.self.invariant.0 c.args.online

pub refresh_online-requires-clause-was : goal.refresh_online-requires-clause-was
refresh_online-requires-clause-was c =
    let i = c.self.inside in
    let sound = c.self.invariant.0 in
    λ key n at. IsGranted-kept Cpus i.groups i.online i.next_serial i.order.items sound.in_order (sound.all_kept Cpus) key n (sound.complete key (ap is_some at)) at

pub invariant_of-self : goal.invariant_of-self
invariant_of-self c =
    let i = c.self.inside in (
      IsSound-refreshed Cpus i.groups c.refresh_online.new.groups i.order.items i.online i.nodes c.args.online i.nodes i.root i.next_serial c.self.invariant.0
          (SamePlaces-from_kept Cpus i.groups c.refresh_online.new.groups c.refresh_online.ensures.same)
          (SameHeld-from_kept Cpus i.groups c.refresh_online.new.groups c.refresh_online.ensures.same)
          refl c.refresh_online.ensures.kept,
      AreParentsUpTo-same i.groups c.refresh_online.new.groups i.newest_parent (SamePlaces-from_kept Cpus i.groups c.refresh_online.new.groups c.refresh_online.ensures.same) c.self.invariant.1,
      AreMarked-same i.groups c.refresh_online.new.groups i.marks.items (SameNames-from_kept Cpus i.groups c.refresh_online.new.groups c.refresh_online.ensures.same) c.self.invariant.2,
    )

pub returns : goal.returns
returns c =
    let i = c.self.inside in
    (λ j. record {
      groups = listed-kept Cpus i.groups c.refresh_online.new.groups c.refresh_online.ensures.same i.order.items j;
      online = c.args.online;
      nodes = i.nodes;
      next_serial = i.next_serial;
    })
    ∙ ap (λ (s : TreeState). with_online s c.args.online) c.self.view_is

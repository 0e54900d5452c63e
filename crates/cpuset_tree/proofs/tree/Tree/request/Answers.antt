use Rattle.std.proofs.Common.{◌≡◌, ap, sym, subst, ◌∙◌}
use Rattle.cpu_set.specs.Ids.{Ids}
use Rattle.cpuset_tree.specs.TreeState.{TreeState}
use Rattle.cpuset_tree.specs.Groups.{has_group}
use Rattle.cpuset_tree.specs.Kept.{top_of, with_request, AllKept, ElsewhereGranted}
use Rattle.cpuset_tree.proofs.CgroupLemmas.{KeptThere, kept_there}
use Rattle.cpuset_tree.proofs.PlaceLemmas.{SamePlaces-from_kept}
use Rattle.cpuset_tree.proofs.RefreshLemmas.{ElsewhereGranted-written, group_at-written}
use Rattle.cpuset_tree.proofs.ParentLemmas.{AreParentsUpTo-same}
use Rattle.cpuset_tree.proofs.WriteLemmas.{written_places, written_order, written_sound, listed-request, with_request_is}
use Rattle.cpuset_tree.proofs.MarkLemmas.{AreMarked-same, SameNames-from_kept, SameNames-requested}
use Rattle.cpuset_tree.proofs.tree.Tree.request.Goals as goal

pub refresh_written-requires-clause-in_order : goal.refresh_written-requires-clause-in_order
refresh_written-requires-clause-in_order c =
    let i = c.self.inside in
    written_order c.args.resource c.args.ids i.groups c.request_at.new.groups i.order.items i.online i.nodes i.root i.next_serial c.args.group c.self.invariant.0 c.request_at.ensures

pub refresh_written-requires-clause-here : goal.refresh_written-requires-clause-here
refresh_written-requires-clause-here c =
    let i = c.self.inside in
    let there : KeptThere i.groups i.order.items c.args.group =
    kept_there i.groups i.order.items i.online i.nodes i.root i.next_serial c.args.group c.self.invariant.0
    (ap (λ (s : TreeState). has_group s c.args.group) c.self.view_is ∙ c.requires) in
    group_at-written c.args.resource c.args.ids i.groups c.request_at.new.groups i.order.items i.online i.nodes i.root i.next_serial c.args.group c.self.invariant.0 c.request_at.ensures there

pub refresh_written-requires-clause-granted : goal.refresh_written-requires-clause-granted
refresh_written-requires-clause-granted c =
    let i = c.self.inside in
    let top : c.whole-top.result ≡ top_of c.args.resource i.online i.nodes =
    c.whole-top.ensures ∙ ap (λ (s : TreeState). top_of c.args.resource s.online s.nodes) (sym c.self.view_is) in
    subst (λ (t : Ids). ElsewhereGranted c.args.resource c.request_at.new.groups t c.args.group.key) (sym top)
    (ElsewhereGranted-written c.args.resource c.args.ids i.groups c.request_at.new.groups i.order.items i.online i.nodes i.root i.next_serial c.args.group c.self.invariant.0 c.request_at.ensures)

pub refresh_written-requires-clause-parents : goal.refresh_written-requires-clause-parents
refresh_written-requires-clause-parents c =
    let i = c.self.inside in
    AreParentsUpTo-same i.groups c.request_at.new.groups i.newest_parent
    (written_places c.args.resource c.args.ids i.groups c.request_at.new.groups i.order.items i.online i.nodes i.root i.next_serial c.args.group c.self.invariant.0 c.request_at.ensures)
    c.self.invariant.1

pub invariant_of-self : goal.invariant_of-self
invariant_of-self c =
    let i = c.self.inside in
    let top : c.whole-top.result ≡ top_of c.args.resource i.online i.nodes =
    c.whole-top.ensures ∙ ap (λ (s : TreeState). top_of c.args.resource s.online s.nodes) (sym c.self.view_is) in (
      written_sound c.args.resource c.args.ids i.groups c.request_at.new.groups i.order.items i.online i.nodes i.root i.next_serial c.args.group c.self.invariant.0 c.request_at.ensures
          c.refresh_written.new.groups c.refresh_written.ensures.same
          (subst (λ (t : Ids). AllKept c.args.resource c.refresh_written.new.groups t i.order.items) top c.refresh_written.ensures.kept),
      AreParentsUpTo-same i.groups c.refresh_written.new.groups i.newest_parent
          (λ k. SamePlaces-from_kept c.args.resource c.request_at.new.groups c.refresh_written.new.groups c.refresh_written.ensures.same k
          ∙ written_places c.args.resource c.args.ids i.groups c.request_at.new.groups i.order.items i.online i.nodes i.root i.next_serial c.args.group c.self.invariant.0 c.request_at.ensures k)
          c.self.invariant.1,
      AreMarked-same i.groups c.refresh_written.new.groups i.marks.items
          (λ k. SameNames-from_kept c.args.resource c.request_at.new.groups c.refresh_written.new.groups c.refresh_written.ensures.same k
          ∙ SameNames-requested c.args.resource c.args.ids i.groups c.request_at.new.groups c.args.group.key c.request_at.ensures k)
          c.self.invariant.2,
    )

pub returns : goal.returns
returns c =
    let i = c.self.inside in
    let there : KeptThere i.groups i.order.items c.args.group =
    kept_there i.groups i.order.items i.online i.nodes i.root i.next_serial c.args.group c.self.invariant.0
    (ap (λ (s : TreeState). has_group s c.args.group) c.self.view_is ∙ c.requires) in
    with_request_is c.args.resource _ c.args.group c.args.ids _
    (listed-request c.args.resource c.args.ids i.groups c.request_at.new.groups i.order.items i.online i.nodes i.root i.next_serial c.args.group c.self.invariant.0 c.request_at.ensures
    c.refresh_written.new.groups there c.refresh_written.ensures.same)
    ∙ ap (λ (s : TreeState). with_request c.args.resource s c.args.group c.args.ids) c.self.view_is

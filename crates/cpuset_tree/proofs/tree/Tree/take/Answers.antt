use Rattle.std.proofs.Common.{◌≡◌, ℕ, not, List, filter, sym, ap, ◌∙◌, subst, rules}
use Rattle.std.proofs.lemmas.Fn.{filter_same}
use Rattle.std.specs.Prelude.{◌==◌}
use Rattle.cpuset_tree.specs.TreeState.{TreeState}
use Rattle.cpuset_tree.specs.Groups.{has_group, is_root, has_children}
use Rattle.cpuset_tree.specs.TreeChanges.{without_group}
use Rattle.cpuset_tree.specs.Kept.{IsSound, entries_kept}
use Rattle.cpuset_tree.proofs.CgroupLemmas.{KeptThere, kept_there}
use Rattle.cpuset_tree.proofs.ChangeLemmas.{listed-removed}
use Rattle.cpuset_tree.proofs.SoundLemmas.{IsSound-removed}
use Rattle.cpuset_tree.proofs.ParentLemmas.{AreParentsUpTo-removed}
use Rattle.cpuset_tree.proofs.MarkLemmas.{AreMarked-removed}
use Rattle.cpuset_tree.proofs.tree.Tree.take.Goals as goal

pub invariant_of-self : goal.invariant_of-self
invariant_of-self c =
    let i = c.self.inside in
    let g = c.args.group in
    let there : KeptThere i.groups i.order.items g =
    kept_there i.groups i.order.items i.online i.nodes i.root i.next_serial g c.self.invariant.0 (ap (λ (s : TreeState). has_group s g) c.self.view_is ∙ c.requires.there) in (
      subst (λ (l : List ℕ). IsSound c.try_remove.new.self l i.online i.nodes i.root i.next_serial)
          (sym (filter_same _ (λ k. not (k == g.key)) _ (λ x b f' k. search rules) _ _ c.retain.ensures.filtered))
          (IsSound-removed i.groups c.try_remove.new.self g there.kept i.order.items i.online i.nodes i.root i.next_serial c.self.invariant.0 there.at there.same
          (there.root ∙ ap (λ (s : TreeState). is_root s g) c.self.view_is ∙ c.requires.child)
          (ap (λ (s : TreeState). has_children s g) c.self.view_is ∙ c.requires.childless)
          c.try_remove.ensures.updates),
      AreParentsUpTo-removed i.groups c.try_remove.new.self g.key i.newest_parent c.try_remove.ensures.updates c.self.invariant.1,
      AreMarked-removed i.groups c.try_remove.new.self g.key i.marks.items c.forget_mark.new.marks.items c.try_remove.ensures.updates c.forget_mark.ensures.others c.self.invariant.2,
    )

pub returns : goal.returns
returns c =
    let i = c.self.inside in
    let g = c.args.group in
    let there : KeptThere i.groups i.order.items g =
    kept_there i.groups i.order.items i.online i.nodes i.root i.next_serial g c.self.invariant.0 (ap (λ (s : TreeState). has_group s g) c.self.view_is ∙ c.requires.there) in
    let items : c.retain.new.self.items ≡ filter (λ k. not (k == g.key)) i.order.items =
    filter_same _ (λ k. not (k == g.key)) _ (λ x b f' k. search rules) _ _ c.retain.ensures.filtered in
    (λ j. record {
      groups = (ap (entries_kept c.try_remove.new.self) items ∙ listed-removed i.groups c.try_remove.new.self g there.kept there.at there.same c.try_remove.ensures.updates.others i.next_serial i.order.items c.self.invariant.0.in_order) j;
      online = i.online;
      nodes = i.nodes;
      next_serial = i.next_serial;
    })
    ∙ ap (λ (s : TreeState). without_group s g) c.self.view_is

use Rattle.std.proofs.Common.{rules, ◌≡◌, ◌==◌, ℕ, false, ◌∙◌, sym, ap}
use Rattle.std.specs.List.{list_any}
use Rattle.std.specs.Option.{option_or}
use Rattle.cpuset_tree.specs.Groups.{child_among, child_of}
use Rattle.cpuset_tree.specs.Kept.{entries_kept, mark_of}
use Rattle.cpuset_tree.specs.TreeState.{TreeState}
use Rattle.cpuset_tree.proofs.KeptLemmas.{child_in_two}
use Rattle.cpuset_tree.proofs.MarkLemmas.{no_child}
use Rattle.cpuset_tree.proofs.tree.Tree.child.Goals as goal

pub returns-in-Some : goal.returns-in-Some
returns-in-Some c =
    sym (ap (λ (t : TreeState). child_of t c.args.parent c.args.name.now) (sym c.self.view_is)
    ∙ child_in_two c.self.inside.groups _ _ _ _ _ c.as_slices.ensures.items
    ∙ ap (λ o. option_or o (child_among (entries_kept c.self.inside.groups c.as_slices.result.1.now) c.args.parent c.args.name.now)) (sym c.child_among.ensures ∙ c.in-Some.is))

pub returns-in-None : goal.returns-in-None
returns-in-None c =
    sym (ap (λ (t : TreeState). child_of t c.args.parent c.args.name.now) (sym c.self.view_is)
    ∙ child_in_two c.self.inside.groups _ _ _ _ _ c.as_slices.ensures.items
    ∙ ap (λ o. option_or o (child_among (entries_kept c.self.inside.groups c.as_slices.result.1.now) c.args.parent c.args.name.now)) (sym c.child_among.ensures ∙ c.in-None.is)
    ∙ sym c.child_among-in-None.ensures)

pub returns-then-not-has_mark : goal.returns-then-not-has_mark
returns-then-not-has_mark c =
    let i = c.self.inside in
    let no : c.has_mark.result ≡ false = search rules in
    let none : list_any (λ m. m == mark_of c.args.parent c.args.name.now) i.marks.items ≡ false =
    ap (λ (k : ℕ). list_any (λ m. m == k) i.marks.items) (sym c.mark_of.ensures)
    ∙ ap (list_any (λ m. m == c.mark_of.result)) (sym c.as_slice.ensures.value)
    ∙ sym c.has_mark.ensures ∙ no in
    sym (ap (λ (t : TreeState). child_of t c.args.parent c.args.name.now) (sym c.self.view_is)
    ∙ no_child i.groups i.marks.items c.args.parent c.args.name.now c.self.invariant.2 none i.order.items)

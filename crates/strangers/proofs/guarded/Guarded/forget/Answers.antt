-- There was one of this name, and it is let go of; or there was none.
use Rattle.std.proofs.Common.{◌≡◌, true, false, List, bytes_eq, string_bytes, sym, ap, ◌∙◌}
use Rattle.std.specs.List.{list_any}
use Rattle.cgroup_tree.specs.Asked.{named}
use Rattle.cgroup_tree.specs.declared.stranger.Stranger.{Stranger as Struct}
use Rattle.runtime.specs.Found.{IsSeen}
use Rattle.strangers.specs.Guarded.{knows}
use Rattle.strangers.proofs.GuardedLemmas.{forgot, forgot_none, guard_of}
use Rattle.strangers.proofs.NameLemmas.{knows_named}
use Rattle.strangers.proofs.guarded.Guarded.forget.Goals as goal

pub returns-then-not-knows : goal.returns-then-not-knows
returns-then-not-knows g c =
    let i = c.self.inside in
    let id = c.args.id.now in
    let none : knows (named i.strangers.items) id ≡ false =
    knows_named id i.strangers.items ∙ ap (λ (ss : List Struct). list_any (λ (s : Struct). bytes_eq (string_bytes s.name) id) ss) (sym c.deref.ensures.value)
    ∙ sym c.knows.ensures ∙ c.if-not-knows.true in
    rw (← c.self.view_is)
    (forgot_none (IsSeen g.B.Bundles.finds) (g.W.Write.contents c.args.w.now) (g.W.Write.contents c.answer.new.w) c.answer.result (guard_of i.runner (named i.strangers.items)) id c.answer.new.self
    none c.answer.ensures)

pub returns : goal.returns
returns g c =
    let i = c.self.inside in
    let id = c.args.id.now in
    let there : knows (named i.strangers.items) id ≡ true =
    knows_named id i.strangers.items ∙ ap (λ (ss : List Struct). list_any (λ (s : Struct). bytes_eq (string_bytes s.name) id) ss) (sym c.deref.ensures.value)
    ∙ sym c.knows.ensures ∙ c.if-not-knows.false in
    rw (← c.self.view_is)
    (forgot (IsSeen g.B.Bundles.finds) (g.W.Write.contents c.args.w.now) (g.W.Write.contents c.put.new.w) c.put.result (guard_of i.runner (named i.strangers.items)) id
    (named c.let_go.new.strangers.items) there c.let_go.ensures c.put.ensures)

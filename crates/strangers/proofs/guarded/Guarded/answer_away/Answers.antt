-- The line was answered while the CPUs were away, and nothing stands against their coming back.
use Rattle.std.proofs.Common.{◌≡◌, List, ap, subst, ◌∙◌}
use Rattle.cgroup_tree.specs.Asked.{named}
use Rattle.cgroup_tree.specs.declared.stranger.Stranger.{Stranger as Struct}
use Rattle.node.specs.IsNode.{IsNode}
use Rattle.node.specs.NodeState.{NodeState}
use Rattle.script.specs.Commands.{asked}
use Rattle.runtime.specs.Found.{IsSeen}
use Rattle.strangers.specs.Guarded.{held}
use Rattle.strangers.proofs.GuardedLemmas.{comes_back, replies_away}
use Rattle.strangers.proofs.guarded.Guarded.answer_away.Goals as goal

pub bring_back-requires : goal.bring_back-requires
bring_back-requires g c =
    let i = c.self.inside in
    let all : c.held.result ≡ held (named i.strangers.items) = c.held.ensures ∙ ap (λ (ss : List Struct). held (named ss)) c.deref.ensures.value in
    comes_back (IsSeen g.B.Bundles.finds) (g.W.Write.contents c.args.w.now) (g.W.Write.contents c.answer-end.new.w) c.answer-end.result i.runner (named i.strangers.items) (asked c.args.command)
    c.held.result c.take_away-cpus.result c.take_away-cpus.new.runner c.answer-end.new.self c.take_away-cpus.ensures.which all c.take_away-cpus.ensures.away c.answer-end.ensures
    c.requires (subst (λ (n : NodeState). IsNode n) c.node.ensures c.holds.ensures) (subst (λ (n : NodeState). IsNode n) c.node-2.ensures c.holds-2.ensures)

pub returns : goal.returns
returns g c =
    let i = c.self.inside in
    let all : c.held.result ≡ held (named i.strangers.items) = c.held.ensures ∙ ap (λ (ss : List Struct). held (named ss)) c.deref.ensures.value in
    rw (← c.self.view_is)
    (replies_away (IsSeen g.B.Bundles.finds) (g.W.Write.contents c.args.w.now) (g.W.Write.contents c.answer-end.new.w) c.answer-end.result i.runner (named i.strangers.items) (asked c.args.command)
    c.held.result c.take_away-cpus.result c.take_away-cpus.new.runner c.answer-end.new.self c.take_away-cpus.ensures.which all c.take_away-cpus.ensures.away c.answer-end.ensures
    c.bring_back.new.runner c.bring_back.ensures)

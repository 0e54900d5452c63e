-- A line that plans or moves is answered while CPUs are away, and one that has nothing to do with strangers as by the runtime alone.
use Rattle.std.proofs.Common.{inl, inr, sym, subst}
use Rattle.script.specs.Commands.{asked}
use Rattle.script.specs.declared.command.Command.{Command}
use Rattle.cgroup_tree.specs.Asked.{named}
use Rattle.runtime.specs.Found.{IsSeen}
use Rattle.strangers.specs.Guarded.{IsPlanning}
use Rattle.strangers.proofs.GuardedLemmas.{guard_of, others, replies_alone, replies_planned}
use Rattle.strangers.proofs.guarded.GuardedTarget.answer.Goals as goal

pub returns-in-Rebalance : goal.returns-in-Rebalance
returns-in-Rebalance g c =
    let planning : IsPlanning (asked c.args.command) = elim c.in-Rebalance.is [
      | inl e ↦ subst (λ (x : Command). IsPlanning (asked x)) (sym e) tt
      | inr e ↦ subst (λ (x : Command). IsPlanning (asked x)) (sym e) tt
    ] in
    replies_planned (IsSeen g.B.Bundles.finds) c.args.self.now (g.W.Write.contents c.args.w.now) (g.W.Write.contents c.answer_away.new.w) c.answer_away.result (asked c.args.command) planning c.answer_away.new.self
    c.answer_away.ensures

pub returns-in-Begin : goal.returns-in-Begin
returns-in-Begin g c =
    let planning : IsPlanning (asked c.args.command) = elim c.in-Begin.is [
      | inl e ↦ subst (λ (x : Command). IsPlanning (asked x)) (sym e) tt
      | inr e ↦ subst (λ (x : Command). IsPlanning (asked x)) (sym e) tt
    ] in
    replies_planned (IsSeen g.B.Bundles.finds) c.args.self.now (g.W.Write.contents c.args.w.now) (g.W.Write.contents c.answer_away-in-Begin.new.w) c.answer_away-in-Begin.result (asked c.args.command) planning c.answer_away-in-Begin.new.self
    c.answer_away-in-Begin.ensures

pub returns-in-Step : goal.returns-in-Step
returns-in-Step g c =
    let planning : IsPlanning (asked c.args.command) = subst (λ (x : Command). IsPlanning (asked x)) (sym c.in-Step.is) tt in
    replies_planned (IsSeen g.B.Bundles.finds) c.args.self.now (g.W.Write.contents c.args.w.now) (g.W.Write.contents c.answer_away-in-Step.new.w) c.answer_away-in-Step.result (asked c.args.command) planning c.answer_away-in-Step.new.self
    c.answer_away-in-Step.ensures

pub returns-in_default : goal.returns-in_default
returns-in_default g c =
    let i = c.self.inside in
    let old = guard_of i.runner (named i.strangers.items) in
    let n = c.in_default in
    let r = replies_alone (IsSeen g.B.Bundles.finds) (g.W.Write.contents c.args.w.now) (g.W.Write.contents c.answer.new.w) c.answer.result old (asked c.args.command) c.answer.new.self c.answer.ensures in
    rw (← c.self.view_is) (record {
      text = r.text;
      answers = others (IsSeen g.B.Bundles.finds) old r.text (guard_of c.answer.new.self (named i.strangers.items)) c.args.command n.not-Forget n.not-Create n.not-Adopt n.not-Rebalance
          n.not-RebalanceDirectly n.not-Begin n.not-BeginDirectly n.not-Step r.answers;
      written = r.written;
    })

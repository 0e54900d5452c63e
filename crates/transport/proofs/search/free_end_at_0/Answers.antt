use Rattle.std.proofs.Common.{◌≡◌, ◌+◌, Some, None, sym, ◌∙◌, subst, arith}
use Rattle.transport.specs.Numbers.{number}
use Rattle.transport.specs.declared.labels.FreeEnd.{FreeEnd}
use Rattle.transport.proofs.Running.{free_end_in_reach}
use Rattle.transport.proofs.search.free_end_at_0.Goals as goal

same_free_end : (e f : FreeEnd) → Some e ≡ Some f → e ≡ f
same_free_end e f h = cc

pub slack-requires-clause-class : goal.slack-requires-clause-class
slack-requires-clause-class c = (free_end_in_reach _ _ _ _ c.requires.1 c.in-Some.is).class

pub slack-requires-clause-row : goal.slack-requires-clause-row
slack-requires-clause-row c = (free_end_in_reach _ _ _ _ c.requires.1 c.in-Some.is).row

pub returns-in-Some : goal.returns-in-Some
returns-in-Some c = record { its = c.in-Some.is; equal = omega (arith, c.slack.ensures, c.if-slack-eq0.true) }

pub returns-in_default : goal.returns-in_default
returns-in_default c = λ e its equal.
    let same = same_free_end e c.in-Some.free_end (sym its ∙ c.in-Some.is) in
    let now = subst (λ (x : FreeEnd). number c.args.assignment.now.values.items x.label.row ≡ x.label.weight + number c.args.assignment.now.prices.items x.class) same equal in
    c.if-slack-eq0.false (omega (arith, c.slack.ensures, now))

pub returns-in_default-2 : goal.returns-in_default-2
returns-in_default-2 c = λ e its equal. (let no : Some e ≡ None = sym its ∙ c.in_default.is in cc)

use Rattle.std.proofs.Common.{sym, ap, ◌∙◌}
use Rattle.std.proofs.lemmas.Bool.{false≢true}
use Rattle.std.specs.Prelude.{cond}
use Rattle.std.specs.FinSet as set
use Rattle.cpu_set.specs.SetLaws.{is_empty-empty, is_empty-some}
use Rattle.apply_plan.proofs.giving.shared_way.Goals as goal

pub returns-then-is_empty : goal.returns-then-is_empty
returns-then-is_empty c =
    c.union.ensures
    ∙ sym (ap (λ b. cond b (set.union c.args.way.now c.args.reserved.now) c.args.way.now)
    (is_empty-empty (set.intersection c.args.way.now c.args.online.now) (sym c.meet.ensures ∙ c.is_empty.ensures.0 c.if-is_empty.true)))

pub returns-else-is_empty : goal.returns-else-is_empty
returns-else-is_empty c =
    sym (ap (λ b. cond b (set.union c.args.way.now c.args.reserved.now) c.args.way.now)
    (is_empty-some (set.intersection c.args.way.now c.args.online.now) (λ none. false≢true (sym c.if-is_empty.false ∙ c.is_empty.ensures.1 (c.meet.ensures ∙ none)))))

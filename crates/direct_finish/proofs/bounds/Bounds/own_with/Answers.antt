use Rattle.std.proofs.Common.{sym, ap, ◌∙◌}
use Rattle.std.specs.Prelude.{cond}
use Rattle.std.specs.FinSet as set
use Rattle.apply_plan.specs.SetMemberLaws.{none_union}
use Rattle.direct_finish.specs.Bounded.{own_of}
use Rattle.direct_finish.proofs.bounds.Bounds.own_with.Goals as goal

pub returns-else-entry : goal.returns-else-entry
returns-else-entry c =
    c.own.ensures
    ∙ sym (ap (λ p. set.union (own_of c.args.self.now) (cond p c.args.held.now set.empty)) c.if-entry.false ∙ none_union (own_of c.args.self.now))

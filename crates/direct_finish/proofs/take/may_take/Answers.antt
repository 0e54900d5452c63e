use Rattle.std.proofs.Common.{sym, ◌∙◌}
use Rattle.apply_plan.specs.DirectLemmas.{both}
use Rattle.direct_finish.proofs.take.may_take.Goals as goal

pub returns-then-must_move : goal.returns-then-must_move
returns-then-must_move g c = λ t. both _ _ (sym c.must_move.ensures ∙ c.if-must_move.true) (c.leave_free.ensures t)

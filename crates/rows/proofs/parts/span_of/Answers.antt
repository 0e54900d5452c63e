use Rattle.rows.proofs.HeldLemmas.{least_first, last_most}
use Rattle.rows.proofs.parts.span_of.Goals as goal

pub returns : goal.returns
returns c = λ n has. (least_first _ _ _ n c.first.ensures.first c.unwrap_or.ensures has, last_most _ _ _ n c.last.ensures.last c.unwrap_or-2.ensures has)

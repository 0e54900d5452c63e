use Rattle.std.proofs.Common.{List, ◌∙◌, subst}
use Rattle.std.specs.Prelude.{IfOk}
use Rattle.certificate.specs.RowView.{RowView}
use Rattle.hall.specs.Needed.{AreNeeded}
use Rattle.blame.proofs.shrinking.shrink.Goals as goal

pub returns-clause-needed : goal.returns-clause-needed
returns-clause-needed c =
    subst (λ (rows : List RowView). IfOk c.try_each.result (λ few. AreNeeded rows few.items)) (c.as_slice.ensures.value ∙ c.problem.view_is) c.try_each.ensures.needed

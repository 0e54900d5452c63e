use Rattle.std.proofs.Common.{ap, ◌∙◌}
use Rattle.std.proofs.lemmas.Bool.{false_from_ne_true}
use Rattle.std.specs.FinSet as set
use Rattle.rows.proofs.parts.is_unheld.Goals as goal

pub returns-in-Some : goal.returns-in-Some
returns-in-Some c = λ d free n has. false_from_ne_true _ (c.is_disjoint.ensures.0 free n (ap (λ s. set.contains s n) (c.in-Some.ensures d) ∙ has))

pub returns-in-None : goal.returns-in-None
returns-in-None c = λ d none n has. c.have_none.ensures none n (c.ranges-in-None.ensures.members d n ∙ has)

use Rattle.std.proofs.Common.{ap, ◌∙◌}
use Rattle.std.specs.FinSet as set
use Rattle.cpu_set.specs.PointwiseLaws.{contains-empty}
use Rattle.twins.proofs.Splitting.{first_at_all}
use Rattle.twins.proofs.grouping.first_above.Goals as goal

pub returns-then-is_empty-clause-first : goal.returns-then-is_empty-clause-first
returns-then-is_empty-clause-first c = λ n le. ap (λ s. set.contains s n) (c.is_empty.ensures.0 c.if-is_empty.true) ∙ contains-empty n

pub returns-clause-first : goal.returns-clause-first
returns-clause-first c = first_at_all c.args.cpus.now c.args.below c.next_after.result c.requires c.next_after.ensures.first

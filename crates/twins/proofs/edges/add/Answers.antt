use Rattle.std.proofs.Common.{ap, ◌∙◌}
use Rattle.std.specs.FinSet as set
use Rattle.twins.proofs.Ends.{stays_inserted, is_inserted}
use Rattle.twins.proofs.edges.add.Goals as goal

pub returns-clause-kept : goal.returns-clause-kept
returns-clause-kept c = λ q here. ap (λ s. set.contains s q) c.insert.ensures ∙ stays_inserted _ c.args.cpu q here

pub returns-clause-there : goal.returns-clause-there
returns-clause-there c = λ is_cpu. ap (λ s. set.contains s c.args.cpu) c.insert.ensures ∙ is_inserted _ c.args.cpu

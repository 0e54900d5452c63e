use Rattle.demand.proofs.NamedSets.{read_named}
use Rattle.demand.proofs.lists.read.Goals as goal

pub returns-in-Some-clause-set : goal.returns-in-Some-clause-set
returns-in-Some-clause-set c = rw (c.in-Some.is, ← c.as_bytes.ensures.value) (read_named c.args.limit _ c.read.result c.requires c.read.ensures)

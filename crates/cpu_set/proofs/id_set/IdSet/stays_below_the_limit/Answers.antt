use Rattle.cpu_set.proofs.Counted.{InRange-words}
use Rattle.cpu_set.proofs.id_set.IdSet.stays_below_the_limit.Goals as goal

pub returns : goal.returns
returns c = rw (← c.lanes.ensures.numbers) (InRange-words c.lanes.result)

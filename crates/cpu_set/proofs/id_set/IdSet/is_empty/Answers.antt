use Rattle.cpu_set.proofs.id_set.IdSet.is_empty.Goals as goal

pub returns : goal.returns
returns c = rw c.lanes.ensures.numbers at c.has_none.ensures

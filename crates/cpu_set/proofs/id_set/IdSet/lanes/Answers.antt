use Rattle.cpu_set.proofs.id_set.IdSet.lanes.Goals as goal

pub returns-clause-words : goal.returns-clause-words
returns-clause-words c = c.self.invariant

pub returns-clause-numbers : goal.returns-clause-numbers
returns-clause-numbers c = c.self.view_is

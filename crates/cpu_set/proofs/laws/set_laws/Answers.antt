use Rattle.cpu_set.specs.SetLaws.{empty_where_none, disjoint_where_meet_is_empty, is_subset-Decides, length-members}
use Rattle.cpu_set.proofs.laws.set_laws.Goals as goal

pub returns-clause-empty : goal.returns-clause-empty
returns-clause-empty c = empty_where_none

pub returns-clause-disjoint : goal.returns-clause-disjoint
returns-clause-disjoint c = disjoint_where_meet_is_empty

pub returns-clause-subset : goal.returns-clause-subset
returns-clause-subset c = is_subset-Decides

pub returns-clause-counted : goal.returns-clause-counted
returns-clause-counted c = length-members

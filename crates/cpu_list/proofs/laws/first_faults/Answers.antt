use Rattle.cpu_list.specs.FirstFaultLaws.{none_where_list, first_decides}
use Rattle.cpu_list.proofs.laws.first_faults.Goals as goal

pub returns-clause-none : goal.returns-clause-none
returns-clause-none c = none_where_list

pub returns-clause-first : goal.returns-clause-first
returns-clause-first c = first_decides

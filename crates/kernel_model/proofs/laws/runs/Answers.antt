use Rattle.kernel_model.specs.KernelLemmas.{first_is_well_formed, empty_where_no_group, each_case_keeps, steps_keep, runs_keep}
use Rattle.kernel_model.proofs.laws.runs.Goals as goal

pub returns : goal.returns
returns c = record { first = first_is_well_formed; empty = empty_where_no_group; case = each_case_keeps; step = steps_keep; run = runs_keep }

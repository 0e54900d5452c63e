use Rattle.kernel_model.specs.NameLemmas.{first_has_own_names, steps_keep_names, runs_keep_names}
use Rattle.kernel_model.proofs.laws.names.Goals as goal

pub returns : goal.returns
returns c = record { first = first_has_own_names; step = steps_keep_names; run = runs_keep_names }

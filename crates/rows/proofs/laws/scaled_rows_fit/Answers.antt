use Rattle.rows.specs.PartLimitLemmas.{scaled_fits}
use Rattle.rows.proofs.laws.scaled_rows_fit.Goals as goal

pub returns : goal.returns
returns c = λ held row light fit. scaled_fits held row light fit

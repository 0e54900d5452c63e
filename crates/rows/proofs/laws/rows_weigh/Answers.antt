use Rattle.rows.specs.LimitLemmas.{rows_weigh}
use Rattle.rows.proofs.laws.rows_weigh.Goals as goal

pub returns : goal.returns
returns c = rows_weigh

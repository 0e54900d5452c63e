use Rattle.rows.specs.LimitLemmas.{rows_weigh}
use Rattle.rows.specs.PartLemmas.{scaled_rows_weigh}
use Rattle.node.proofs.AskingLemmas.{rows_are_asking, scaled_are_asking, short_stands}
use Rattle.node.proofs.laws.whose_rows.Goals as goal

pub returns : goal.returns
returns c = record {
  rows = λ n h. rows_are_asking n h rows_weigh;
  scaled = λ n h. scaled_are_asking n h rows_weigh scaled_rows_weigh;
  short = λ old wanted allowed new h lacks. short_stands old h rows_weigh scaled_rows_weigh wanted allowed new lacks;
}

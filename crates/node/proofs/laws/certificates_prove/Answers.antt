use Rattle.rows.specs.LimitLemmas.{rows_weigh}
use Rattle.rows.specs.PartLemmas.{scaled_rows_weigh}
use Rattle.node.proofs.ProvedLemmas.{last_is_proved, total_is_proved, short_is_proved}
use Rattle.node.proofs.laws.certificates_prove.Goals as goal

pub returns : goal.returns
returns c = record {
  last = last_is_proved c.written_texts_are_read.ensures;
  total = total_is_proved c.written_texts_are_read.ensures;
  short = short_is_proved c.written_texts_are_read.ensures rows_weigh scaled_rows_weigh;
}

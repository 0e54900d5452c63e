use Rattle.certificate_text.proofs.BadLines.{is_read}
use Rattle.certificate_text.proofs.reading.read_text.Goals as goal

pub returns-clause-complete : goal.returns-clause-complete
returns-clause-complete c = is_read c.args.text.now c.read_text_body.result c.read_text_body.ensures.ok c.read_text_body.ensures.error

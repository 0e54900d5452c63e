use Rattle.std.proofs.lemmas.Result.{on_ok_weaker}
use Rattle.certificate_text.proofs.writing.write_text.Goals as goal

pub returns-clause-stands : goal.returns-clause-stands
returns-clause-stands g c =
    on_ok_weaker c.write_text_body.result (c.written_texts_are_read.ensures c.args.certificate.now c.requires) c.write_text_body.ensures.held

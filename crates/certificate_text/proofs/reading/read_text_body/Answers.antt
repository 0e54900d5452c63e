use Rattle.certificate_text.proofs.Finishing.{asks_text, text_finished}
use Rattle.certificate_text.proofs.reading.read_text_body.Goals as goal

pub finish-requires : goal.finish-requires
finish-requires c = let is = c.in_ok-draft.ensures.ok in (is.0, is.1)

pub returns-in-Ok-clause-ok : goal.returns-in-Ok-clause-ok
returns-in-Ok-clause-ok c =
    text_finished c.args.text.now c.in_ok-draft.draft c.in-Ok.certificate c.in_ok-draft.ensures.ok c.in-Ok.ensures.ok

pub returns-in-Err-clause-error : goal.returns-in-Err-clause-error
returns-in-Err-clause-error c = asks_text c.args.text.now c.in_ok-draft.draft c.in_ok-draft.ensures.ok c.in-Err.ensures.err

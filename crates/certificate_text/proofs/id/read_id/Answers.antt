use Rattle.certificate_text.proofs.Ids.{IsUtf8-id}
use Rattle.certificate_text.proofs.id.read_id.Goals as goal

pub returns-in_default-clause-bad : goal.returns-in_default-clause-bad
returns-in_default-clause-bad c = λ _ bad h. c.in_default.ensures.cases.0 (IsUtf8-id c.args.word.now h)

use Rattle.std.proofs.Common.{◌==◌}
use Rattle.certificate_text.proofs.Cuts.{never_empty}
use Rattle.certificate_text.proofs.line_words.read_short.Goals as goal

pub returns-in-Some : goal.returns-in-Some
returns-in-Some c = λ id h. never_empty (λ x. x == 32) c.in-Some.field-0.1.now (cc (c.in-Some.ensures.0, h))

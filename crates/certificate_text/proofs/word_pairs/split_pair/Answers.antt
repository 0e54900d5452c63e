use Rattle.std.proofs.Common.{◌==◌}
use Rattle.certificate_text.proofs.Cuts.{never_empty}
use Rattle.certificate_text.proofs.word_pairs.split_pair.Goals as goal

pub returns-in-Some : goal.returns-in-Some
returns-in-Some c = λ a b e. never_empty (λ x. x == c.args.separator) c.in-Some.field-0.1.now (cc (c.in_ok-first.ensures.0, c.in-Some.ensures.0))

use Rattle.std.proofs.Common.{rules, nat_lt}
use Rattle.std.proofs.lemmas.List.Sorted.{answers_always}
use Rattle.certificate.proofs.Rising.{is_rising-answer}
use Rattle.certificate.proofs.limit_checks.is_rising.Goals as goal

pub returns : goal.returns
returns c = is_rising-answer c.args.members.now c.is_sorted_by.result (c.is_sorted_by.ensures.cases nat_lt (answers_always _ _ _ (λ f a r f' called. search rules)))

use Rattle.std.proofs.Common.{◌+◌, arith, rules}
use Rattle.std.proofs.lemmas.List.{take_rest}
use Rattle.cpu_list.proofs.PlainItems.{IsPlain-one, IsPlain-two}
use Rattle.cpu_list.proofs.item.read_plain.Goals as goal

pub returns-then-ends_at-clause-plain : goal.returns-then-ends_at-clause-plain
returns-then-ends_at-clause-plain c =
    IsPlain-one _ _ _ _ c.front_number-first.ensures (omega arith) (omega arith) (c.ends_at.ensures.comma c.if-ends_at.true)

pub returns-clause-plain : goal.returns-clause-plain
returns-clause-plain c =
    IsPlain-two _ _ _ _ _ _ _ c.front_number-first.ensures c.front_number-last.ensures (take_rest c.args.text.now (c.front_number-first.result.1 + 1)) (c.ends_at.ensures.whole c.if-ends_at.false)
    (search rules) (omega arith) (omega arith) (omega arith) (omega arith) (c.ends_at-else-last-first.ensures.comma (search rules))

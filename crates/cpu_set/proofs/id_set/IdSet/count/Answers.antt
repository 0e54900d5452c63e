use Rattle.std.proofs.Common.{◌∙◌, ap, arith}
use Rattle.std.specs.FinSet as set
use Rattle.cpu_set.proofs.Counted.{fold-is_len, fold_fits, fold_small, len-small, len-members, InRange-words}
use Rattle.cpu_set.proofs.id_set.IdSet.count.Goals as goal

pub overflow_add-result : goal.overflow_add-result
overflow_add-result c = fold_fits _ c.lanes.ensures.words

pub overflow_cast-result-2 : goal.overflow_cast-result-2
overflow_cast-result-2 c = record { fits = fold_small _ c.lanes.ensures.words }

pub returns-clause-is_len : goal.returns-clause-is_len
returns-clause-is_len c = fold-is_len _ c.lanes.ensures.words ∙ ap set.len c.lanes.ensures.numbers

pub returns-clause-small : goal.returns-clause-small
returns-clause-small c = let e = fold-is_len _ c.lanes.ensures.words in let le = len-small c.lanes.result in omega arith

pub returns-clause-in_range : goal.returns-clause-in_range
returns-clause-in_range c = rw (← c.lanes.ensures.numbers) (InRange-words c.lanes.result)

pub returns-clause-members : goal.returns-clause-members
returns-clause-members c = rw (← c.lanes.ensures.numbers) (fold-is_len _ c.lanes.ensures.words ∙ len-members c.lanes.result)

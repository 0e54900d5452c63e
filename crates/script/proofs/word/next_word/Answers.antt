use Rattle.std.proofs.Common.{arith}
use Rattle.std.proofs.lemmas.List.{take_rest}
use Rattle.script.proofs.Words.{words-next, words-none}
use Rattle.script.proofs.word.next_word.Goals as goal

pub returns-then-start-line : goal.returns-then-start-line
returns-then-start-line c = words-none c.args.line.now c.leading_blanks-start.result c.leading_blanks-start.ensures.count (omega arith)

pub returns : goal.returns
returns c =
    rw (take_rest, take_rest)
    (words-next c.args.line.now c.leading_blanks-start.result c.word_len-len.result c.leading_blanks-start.ensures.count (omega arith) (rw take_rest at c.word_len-len.ensures.count))

use Rattle.std.proofs.Common.{Some, None, arith}
use Rattle.cpu_set.proofs.Finding.{NoBitFrom-zero, IsFirstBit-whole}
use Rattle.cpu_set.proofs.OneWord.{first_of_word, without_bit}
use Rattle.cpu_set.proofs.word_set.WordSet.take_first.Goals as goal

pub returns-then-self-eq0-clause-first : goal.returns-then-self-eq0-clause-first
returns-then-self-eq0-clause-first c = rw (← c.self.view_is) (first_of_word _ _ 0 0 None c.self.invariant (omega arith) (omega arith) (NoBitFrom-zero _ c.if-self-eq0.true))

pub returns-clause-first : goal.returns-clause-first
returns-clause-first c =
    rw (← c.self.view_is) (first_of_word _ _ 0 0 (Some _) c.self.invariant (omega arith) (omega arith) (IsFirstBit-whole _ c.self.invariant.fits (omega (arith, c.if-self-eq0.false))))

pub returns-clause-left : goal.returns-clause-left
returns-clause-left c =
    let first = IsFirstBit-whole _ c.self.invariant.fits (omega (arith, c.if-self-eq0.false)) in
    rw (← c.self.view_is) (without_bit _ _ _ c.self.invariant first.below)

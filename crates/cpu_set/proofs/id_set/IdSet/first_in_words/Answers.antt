use Rattle.std.proofs.Common.{◌*◌, arith}
use Rattle.cpu_set.proofs.Finding.{NoneBetween-join, IsFirstBit-start, NoBitFrom-start, IsFirstFrom-lower, first-in_word, IsFirstBit-whole, none-in_word, NoBitFrom-zero, none-from}
use Rattle.cpu_set.proofs.id_set.IdSet.first_in_words.Goals as goal

pub returns-then-word-ne0-clause-first : goal.returns-then-word-ne0-clause-first
returns-then-word-ne0-clause-first c = rw (← c.self.view_is) (IsFirstFrom-lower _ _ (c.loop-k.k * 64) _ (omega arith) c.loop-k.invariant (first-in_word _ (c.loop-k.k * 64) c.loop-k.k _ c.self.invariant (omega arith) (IsFirstBit-start _ _ _ (IsFirstBit-whole _ (c.self.invariant.fit _) (omega arith)))))

pub loop-k-preserved : goal.loop-k-preserved
loop-k-preserved c = NoneBetween-join _ _ (c.loop-k.k * 64) _ c.loop-k.invariant (none-in_word _ (c.loop-k.k * 64) c.loop-k.k c.self.invariant (omega arith) (NoBitFrom-start _ _ (NoBitFrom-zero _ (omega arith))))

pub returns-clause-first : goal.returns-clause-first
returns-clause-first c = rw (← c.self.view_is) (none-from _ _ (c.loop-k.k * 64) c.self.invariant (omega arith) c.loop-k.invariant)

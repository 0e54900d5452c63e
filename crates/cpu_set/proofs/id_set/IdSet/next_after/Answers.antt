use Rattle.std.proofs.Common.{arith, refl}
use Rattle.cpu_set.proofs.Finding.{first-in_word, none-in_word, first-lower, none-past}
use Rattle.cpu_set.proofs.id_set.IdSet.next_after.Goals as goal

pub returns-then-from-clause-first : goal.returns-then-from-clause-first
returns-then-from-clause-first c = rw (← c.self.view_is) (none-past _ _ c.self.invariant (omega arith))

pub returns-in-Some-clause-first : goal.returns-in-Some-clause-first
returns-in-Some-clause-first c = rw (← c.self.view_is) (first-in_word _ _ _ _ c.self.invariant refl c.in-Some.ensures)

pub returns-in-None-clause-first : goal.returns-in-None-clause-first
returns-in-None-clause-first c = first-lower _ _ _ _ (omega arith) (rw (← c.self.view_is) (none-in_word _ _ _ c.self.invariant refl c.in-None.ensures)) c.first_in_words.ensures.first

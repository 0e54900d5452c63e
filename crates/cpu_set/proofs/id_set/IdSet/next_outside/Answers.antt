use Rattle.std.proofs.Common.{arith, refl}
use Rattle.cpu_set.proofs.Finding.{first-lower}
use Rattle.cpu_set.proofs.Told.{first_told, none_outside_past, none_told, tells_words_outside}
use Rattle.cpu_set.proofs.id_set.IdSet.next_outside.Goals as goal

pub returns-then-least-clause-first : goal.returns-then-least-clause-first
returns-then-least-clause-first c = none_outside_past _ _ _ _ c.self.invariant c.self.view_is (omega arith)

pub returns-in-Some-clause-first : goal.returns-in-Some-clause-first
returns-in-Some-clause-first c =
    first_told _ _ _ _ _ (tells_words_outside _ _ _ _ _ c.self.invariant c.other.invariant c.self.view_is c.other.view_is) refl c.in-Some.ensures

pub returns-in-None-clause-first : goal.returns-in-None-clause-first
returns-in-None-clause-first c =
    first-lower _ _ _ _ (omega arith)
    (none_told _ _ _ _ (tells_words_outside _ _ _ _ _ c.self.invariant c.other.invariant c.self.view_is c.other.view_is) refl c.in-None.ensures)
    c.first_outside_in_words.ensures.first

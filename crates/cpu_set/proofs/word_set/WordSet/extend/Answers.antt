use Rattle.std.proofs.Common.{arith}
use Rattle.cpu_set.proofs.Combined.{inserted_fits}
use Rattle.cpu_set.proofs.OneWord.{with_bit, apart, behind, none_behind}
use Rattle.cpu_set.proofs.word_set.WordSet.extend.Goals as goal
use Rattle.cpu_set.proofs.word_set.WordSet.extend.Goals.{then-n-self-via-then-n-self, then-n-self-via-else-n-self+then-self-place-ne0}

pub invariant_of-self : goal.invariant_of-self
invariant_of-self c = record { within = c.self.invariant.within; fits = inserted_fits _ _ c.self.invariant.fits }

pub returns-clause-added : goal.returns-clause-added
returns-clause-added c = λ _ q. rw (← c.self.view_is) (with_bit _ _ _ q c.self.invariant (omega arith))

pub returns-clause-above : goal.returns-clause-above
returns-clause-above c = rw (← c.self.view_is) (λ _. none_behind _ _ _ c.self.invariant (omega arith) (omega arith))

pub returns-then-n-self-clause-refused : goal.returns-then-n-self-clause-refused
returns-then-n-self-clause-refused c = rw (← c.self.view_is) (λ _ m on same none. elim c.then-n-self.branch [
  | then-n-self-via-then-n-self w ↦ apart _ _ _ m c.self.invariant on same w.if-n-self.true
  | then-n-self-via-else-n-self+then-self-place-ne0 w ↦ behind _ _ _ c.self.invariant w.if-n-self.false w.if-self-place-ne0.true none
])

use Rattle.std.proofs.Common.{sym, ap, ◌∙◌, ◌==◌}
use Rattle.std.proofs.lemmas.Nat.Bits.{shr_and_one}
use Rattle.cpu_set.specs.WordLaws.{contains-set_of_words}
use Rattle.cpu_set.proofs.Combined.{contains-past}
use Rattle.cpu_set.proofs.id_set.IdSet.contains.Goals as goal

pub returns-then-n-lt-CPU_LIMIT : goal.returns-then-n-lt-CPU_LIMIT
returns-then-n-lt-CPU_LIMIT c = rw (← c.self.view_is) (ap (λ v. v == 1) (shr_and_one _ _) ∙ sym (contains-set_of_words _ c.self.invariant _))

pub returns-else-n-lt-CPU_LIMIT : goal.returns-else-n-lt-CPU_LIMIT
returns-else-n-lt-CPU_LIMIT c = rw (← c.self.view_is) (contains-past _ _ c.self.invariant c.if-n-lt-CPU_LIMIT.false)

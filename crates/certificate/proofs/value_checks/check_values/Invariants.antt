use Rattle.std.proofs.Common.{◌≡◌, ℕ, ◌<◌, None}
use Rattle.certificate.specs.PlanFault.{at_both, value_fault}
use Rattle.certificate.proofs.value_checks.check_values.Given as goal

abbrev pub invariant-loop-k : goal.invariant-loop-k
invariant-loop-k l = (j : ℕ) → j < l.k → at_both (value_fault l.prices j) l.rows l.values j ≡ None

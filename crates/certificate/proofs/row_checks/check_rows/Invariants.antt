use Rattle.std.proofs.Common.{◌≡◌, ℕ, ◌<◌, None, take, All}
use Rattle.cpu_set.specs.Members.{InRange}
use Rattle.certificate.specs.PlanFault.{at_both, row_fault}
use Rattle.certificate.proofs.row_checks.check_rows.Given as goal

abbrev pub invariant-loop-k : goal.invariant-loop-k
invariant-loop-k l = record {
  none : (j : ℕ) → j < l.k → at_both (row_fault j) l.rows l.sets j ≡ None;
  in_range : All InRange (take l.k l.sets);
}

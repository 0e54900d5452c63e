use Rattle.std.proofs.Common.{◌≡◌, ℕ, ◌<◌, None, take}
use Rattle.std.specs.FinSet as set
use Rattle.certificate.specs.PlanFault.{is_held, twice_fault}
use Rattle.certificate.proofs.row_checks.check_apart.Given as goal

abbrev pub invariant-loop-own : goal.invariant-loop-own
invariant-loop-own l = record {
  same : (c : ℕ) → set.contains l.held c ≡ is_held (take l.own-index l.sets) c;
  none : (j : ℕ) → j < l.own-index → twice_fault l.sets j ≡ None;
}

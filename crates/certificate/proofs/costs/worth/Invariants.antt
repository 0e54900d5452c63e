use Rattle.std.proofs.Common.{◌≡◌, ◌≤◌, ◌*◌, take}
use Rattle.certificate.specs.IsBound.{worth}
use Rattle.certificate.specs.declared.limits.TheConstants.{MAX_DEMAND, MAX_AMOUNT}
use Rattle.certificate.proofs.costs.worth.Given as goal

abbrev pub invariant-loop-k : goal.invariant-loop-k
invariant-loop-k l = record {
  so_far : l.worth ≡ worth (take l.k l.rows) (take l.k l.values);
  small : l.worth ≤ l.k * (MAX_DEMAND * MAX_AMOUNT);
}

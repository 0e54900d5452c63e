use Rattle.std.proofs.Common.{◌≡◌, ◌≤◌, ◌*◌, take}
use Rattle.cpu_set.specs.declared.TheConstants.{CPU_LIMIT}
use Rattle.certificate.specs.Cost.{cost}
use Rattle.certificate.specs.declared.limits.TheConstants.{MAX_WEIGHT}
use Rattle.certificate.proofs.costs.plan_cost.Given as goal

abbrev pub invariant-loop-k : goal.invariant-loop-k
invariant-loop-k l = record {
  so_far : l.total ≡ cost (take l.k l.rows) (take l.k l.sets);
  small : l.total ≤ l.k * (CPU_LIMIT * MAX_WEIGHT);
}

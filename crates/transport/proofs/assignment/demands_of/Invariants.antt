use Rattle.std.proofs.Common.{◌≡◌, map, take}
use Rattle.transport.proofs.assignment.demands_of.Given as goal

abbrev pub invariant-loop-row : goal.invariant-loop-row
invariant-loop-row l = l.demands.items ≡ map (λ r. r.demand) (take l.row-index l.rows)

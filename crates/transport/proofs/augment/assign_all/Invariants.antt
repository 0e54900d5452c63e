use Rattle.std.proofs.Common.{◌+◌, ◌*◌, ◌<◌, ◌≤◌, length}
use Rattle.transport.specs.Totals.{total}
use Rattle.transport.specs.Outcomes.{demand_of}
use Rattle.transport.specs.Settled.{IsTreeOf}
use Rattle.transport.specs.Assigning.{AreAssigned}
use Rattle.transport.proofs.augment.assign_all.Given as goal

abbrev pub invariant-loop-row : goal.invariant-loop-row
invariant-loop-row l = AreAssigned l.instance l.sizes l.assignment l.arcs_by_kind.items l.row l.turns × IsTreeOf l.assignment l.tree × (l.limit.at_first ≤ l.most)
    × (l.most ≤ l.limit.at_first + l.limit.per_cpu * total (demand_of l.instance.rows.now) l.row) × (l.turns ≤ l.most + (length l.instance.rows.now + length l.sizes))
    × (l.most < 18446744073709551615 → l.limit.at_first + l.limit.per_cpu * total (demand_of l.instance.rows.now) l.row ≤ l.most)

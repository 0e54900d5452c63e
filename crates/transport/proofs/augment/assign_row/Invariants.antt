use Rattle.std.proofs.Common.{◌+◌, ◌≤◌}
use Rattle.transport.specs.Numbers.{number}
use Rattle.transport.specs.Settled.{IsTreeOf}
use Rattle.transport.specs.Assigning.{IsAssigning, a_search}
use Rattle.transport.proofs.augment.assign_row.Given as goal

abbrev pub invariant-searches : goal.invariant-searches
invariant-searches l = IsAssigning l.instance l.row l.initial.assignment l.assignment l.arcs_by_kind l.initial.turns l.turns × IsTreeOf l.assignment l.tree × (l.turns ≤ l.most + a_search l.initial.assignment)

abbrev pub decreases-searches : goal.decreases-searches
decreases-searches l = number l.assignment.deficit.items l.row

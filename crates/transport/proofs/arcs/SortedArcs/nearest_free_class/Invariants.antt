use Rattle.std.proofs.Common.{ℕ, ◌-◌, Option, length}
use Rattle.transport.specs.SortedArcs.{IsSortedArcs}
use Rattle.transport.specs.Sought.{IsFurther}
use Rattle.transport.proofs.arcs.SortedArcs.nearest_free_class.Given as goal

abbrev pub invariant-loop-self : goal.invariant-loop-self
invariant-loop-self l = record {
  sorted_arcs : (ws : ℕ → Option ℕ) → IsSortedArcs ws l.offers l.firsts l.residual l.initial.self → IsSortedArcs ws l.offers l.firsts l.residual l.self;
  further : IsFurther l.initial.self l.self;
}

abbrev pub decreases-loop-self : goal.decreases-loop-self
decreases-loop-self l = length l.offers - l.self.opened

use Rattle.std.proofs.Common.{ℕ, Option, length}
use Rattle.transport.specs.Numbers.{number}
use Rattle.transport.specs.States.{cell, AreHoldings, IsNoHolder}
use Rattle.transport.specs.Answers.{IsFound}
use Rattle.transport.specs.Augmenting.{IsAugmenting, IsSameButHoldings}
use Rattle.transport.proofs.augment.augment.Given as goal

abbrev pub invariant-path : goal.invariant-path
invariant-path l = record {
  augmenting : (ws : ℕ → ℕ → Option ℕ) → IsFound ws l.initial.assignment l.tree l.free_end
      → IsAugmenting ws l.initial.assignment.values.items l.initial.assignment.prices.items l.tree.reached_rows (cell l.initial.assignment.holdings.items) (cell l.assignment.holdings.items)
      (length l.initial.assignment.values.items) (length l.initial.assignment.prices.items) l.row l.class l.free_end.class l.amount;
  holdings : AreHoldings (length l.initial.assignment.values.items) (length l.initial.assignment.prices.items) l.assignment.holdings.items;
  none : (k : ℕ) → IsNoHolder k l.initial.assignment.holdings.items → IsNoHolder k l.assignment.holdings.items;
  rest : IsSameButHoldings l.initial.assignment l.assignment;
}

abbrev pub decreases-path : goal.decreases-path
decreases-path l = number l.tree.reached_rows.index.items l.row

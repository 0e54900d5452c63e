-- What an augmentation leaves.
use Rattle.std.specs.Prelude.{◌≡◌, ℕ, ◌+◌, ◌-◌, ◌<◌, Option, length, slice_set}
use Rattle.transport.specs.Numbers.{number}
use Rattle.transport.specs.ReachedRows.{row_at}
use Rattle.transport.specs.Duals.{IsTight}
use Rattle.transport.specs.Totals.{row_total, class_total}
use Rattle.transport.specs.States.{cell, AreHoldings, IsNoHolder}
use Rattle.transport.specs.Answers.{IsFound}
use Rattle.transport.specs.Augmenting.{in_hand}
use Rattle.transport.specs.declared.labels.FreeEnd.{FreeEnd}
use Rattle.transport.specs.declared.assignment.Assignment.{Assignment}
use Rattle.transport.specs.declared.tree.SearchTree.{SearchTree}

-- the root holds so many CPUs more, and the free end's class has as many fewer free
pub record IsAugmented (old new : Assignment) (t : SearchTree) (free_end : FreeEnd) (amount : ℕ) : Type 0 where
  pub values : new.values ≡ old.values
  pub prices : new.prices ≡ old.prices
  pub residual : new.residual.items ≡ slice_set old.residual.items free_end.class (number old.residual.items free_end.class - amount)
  pub deficit : new.deficit.items ≡ slice_set old.deficit.items (row_at t.reached_rows 0) (number old.deficit.items (row_at t.reached_rows 0) - amount)
  pub holdings : AreHoldings (length old.values.items) (length old.prices.items) new.holdings.items
  pub none : (k : ℕ) → (k ≡ row_at t.reached_rows 0 → ⊥) → IsNoHolder k old.holdings.items → IsNoHolder k new.holdings.items
  pub tight : (ws : ℕ → ℕ → Option ℕ) → IsFound ws old t free_end → (k g : ℕ) → 0 < cell new.holdings.items k g → IsTight ws old.values.items old.prices.items k g
  pub by_root : row_total (cell new.holdings.items) (length old.prices.items) (row_at t.reached_rows 0) ≡ row_total (cell old.holdings.items) (length old.prices.items) (row_at t.reached_rows 0) + amount
  pub by_others : (k : ℕ) → k < length old.values.items → (k ≡ row_at t.reached_rows 0 → ⊥) → row_total (cell new.holdings.items) (length old.prices.items) k ≡ row_total (cell old.holdings.items) (length old.prices.items) k
  pub by_class : (g : ℕ) → g < length old.prices.items → class_total (cell new.holdings.items) (length old.values.items) g ≡ class_total (cell old.holdings.items) (length old.values.items) g + in_hand free_end.class amount g

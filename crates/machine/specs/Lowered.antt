-- Weights where each node is a home, and weights lowered by one home more. No public clause cites this module.
use Rattle.std.specs.Prelude.{◌≡◌, ℕ, ◌<◌, ◌≤◌, min, List, length, slice_index_or}
use Rattle.machine.specs.declared.TheConstants.{NODE_LIMIT}
use Rattle.machine.specs.Layout.{Layout, distance}

-- at each node below n the distance within a node, and behind them the greatest distance
pub record AreLocal (n : ℕ) (weights : List ℕ) : Type 0 where
  pub room : length weights ≡ NODE_LIMIT
  pub local : (i : ℕ) → i < n → slice_index_or weights i 255 ≡ 10
  pub beyond : (i : ℕ) → n ≤ i → slice_index_or weights i 255 ≡ 255

-- the weights of the nodes below n are lowered to their distances to a home, where those are less
pub record AreLowered (m : Layout) (home : ℕ) (old new : List ℕ) (n : ℕ) : Type 0 where
  pub room : length new ≡ NODE_LIMIT
  pub before : (i : ℕ) → i < n → slice_index_or new i 255 ≡ min (slice_index_or old i 255) (distance m i home)
  pub after : (i : ℕ) → n ≤ i → slice_index_or new i 255 ≡ slice_index_or old i 255

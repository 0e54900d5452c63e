-- The nodes of each weight, chained from the last to the first. No public clause cites this module.
use Rattle.std.specs.Prelude.{◌≡◌, ℕ, ◌+◌, ◌<◌, ◌≤◌, List, length, slice_index_or}
use Rattle.machine.specs.declared.TheConstants.{NODE_LIMIT}

-- one more than the last node below b that has the weight, and 0 where none has
pub record IsLastBelow (weights : List ℕ) (b w p : ℕ) : Type 0 where
  pub below : p ≤ b
  pub none_after : (k : ℕ) → p ≤ k → k < b → slice_index_or weights k 255 ≡ w → ⊥
  pub has : (k : ℕ) → p ≡ k + 1 → slice_index_or weights k 255 ≡ w

-- of the nodes below n the last of each weight, and for each node the one before it that weighs the same
pub record AreChains (weights last next : List ℕ) (n : ℕ) : Type 0 where
  pub last_room : length last ≡ 255
  pub next_room : length next ≡ NODE_LIMIT
  pub last_at : (w : ℕ) → w < 255 → IsLastBelow weights n w (slice_index_or last w 0)
  pub next_at : (k : ℕ) → k < n → slice_index_or weights k 255 < 255
      → IsLastBelow weights k (slice_index_or weights k 255) (slice_index_or next k 0)

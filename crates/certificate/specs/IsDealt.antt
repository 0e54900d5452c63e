-- How CPUs that are alike in each row are dealt to the rows.
use Rattle.std.specs.Prelude.{◌≡◌, ℕ, ◌<◌, ◌≤◌, true, List, All, slice_index_or}
use Rattle.std.specs.FinSet as set
use Rattle.cpu_set.specs.Ids.{Ids}
use Rattle.certificate.specs.RowView.{RowView}
use Rattle.certificate.specs.Weight.{weight}

-- in each row both CPUs have the same weight, or both have none
abbrev pub AreTwins : List RowView → ℕ → ℕ → Type 0
AreTwins rows a b = All (λ row. weight row a ≡ weight row b) rows

-- the set at this place has the CPU
abbrev pub Holds : List Ids → ℕ → ℕ → Type 0
Holds sets k cpu = set.contains (slice_index_or sets k set.empty) cpu ≡ true

-- of two twins the lower one is held by no later row. If a row holds the higher one, it or an earlier row holds the lower
-- one.
abbrev pub IsDealt : List RowView → List Ids → Type 0
IsDealt rows sets =
    (a b k : ℕ) → a < b → AreTwins rows a b → Holds sets k b → (j : ℕ) × (j ≤ k) × Holds sets j a

-- Shares that can be dealt.
use Rattle.std.specs.Prelude.{◌≡◌, ℕ, ◌<◌, ◌≤◌, List, All, length}
use Rattle.std.specs.FinSet as set
use Rattle.cpu_set.specs.Ids.{Ids}
use Rattle.twins.specs.IsGrouping.{class_at}
use Rattle.twins.specs.Holdings.{held_of, shared_out}
use Rattle.twins.specs.declared.holders.Share.{Share}

-- shares of one class: of so many rows, and together no more than the class has
pub record Fit (rows size : ℕ) (shares : List Share) : Type 0 where
  pub rows_in : All (λ s. s.row < rows) shares
  pub room : shared_out shares ≤ size

-- the shares of each class are of rows, and no more than the class has
pub record HasRoom (rows : ℕ) (classes : List Ids) (holdings : List (List Share)) : Type 0 where
  pub same : length holdings ≡ length classes
  pub rows_in : All (All (λ s. s.row < rows)) holdings
  pub room : (g : ℕ) → held_of holdings g ≤ set.len (class_at classes g)

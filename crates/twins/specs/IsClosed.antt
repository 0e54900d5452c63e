-- Rows that together may have only some of the classes.
-- From: Hall's condition.
use Rattle.std.specs.Prelude.{◌≡◌, ℕ, ◌<◌, Bool, true, if◌then◌else◌, Some, List, All, Contains, length, sum_by}
use Rattle.std.specs.List.{range_with_len}
use Rattle.std.specs.List.Sorted.{IsStrictlyIncreasing}
use Rattle.std.specs.FinSet as set
use Rattle.cpu_set.specs.Ids.{Ids}
use Rattle.certificate.specs.RowView.{RowView}
use Rattle.certificate.specs.IsShortage.{chosen, asked, IsShortage}
use Rattle.twins.specs.IsGrouping.{class_at, IsGrouping}
use Rattle.twins.specs.ClassWeight.{class_weight}

-- how many CPUs the classes have that pass
abbrev pub taken_size : List Ids → (ℕ → Bool) → ℕ
taken_size classes taken = sum_by (λ g. if taken g then set.len (class_at classes g) else 0) (range_with_len 0 (length classes))

-- rows, each once, that have weights only for classes that pass, and ask for more CPUs than those have
pub record IsClosed (rows : List RowView) (classes : List Ids) (members : List ℕ) (taken : ℕ → Bool) : Type 0 where
  pub rising : IsStrictlyIncreasing members
  pub there : All (λ k. k < length rows) members
  pub only : (k g w : ℕ) → Contains members k → class_weight rows classes k g ≡ Some w → taken g ≡ true
  pub short : taken_size classes taken < asked (chosen rows members)

-- rows that ask for more than their classes have are a shortage
abbrev pub ClosedRowsAreShort : Type 0
ClosedRowsAreShort =
    (rows : List RowView) (classes : List Ids) (members : List ℕ) (taken : ℕ → Bool)
    → IsGrouping rows classes → IsClosed rows classes members taken → IsShortage rows members

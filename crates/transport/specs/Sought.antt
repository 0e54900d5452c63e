-- Rows from which the free end was sought.
use Rattle.std.specs.Prelude.{◌≡◌, ℕ, ◌+◌, ◌<◌, ◌≤◌, Option, Some, None, List, slice_index_or}
use Rattle.twins.specs.Kinds.{kind_at}
use Rattle.transport.specs.Numbers.{number}
use Rattle.transport.specs.ReachedRows.{row_at}
use Rattle.transport.specs.Scans.{arc_at, IsLimit}
use Rattle.transport.specs.SortedArcs.{IsScanned}
use Rattle.transport.specs.Weights.{weights}
use Rattle.transport.specs.declared.arcs.SortedArcs.{SortedArcs}
use Rattle.transport.specs.declared.assignment.Assignment.{Assignment}
use Rattle.transport.specs.declared.instance.Instance.{Instance}
use Rattle.transport.specs.declared.labels.FreeEnd.{FreeEnd}
use Rattle.transport.specs.declared.tree.SearchTree.{SearchTree}

-- the cursor stands no earlier, and the arcs before its old place are the same
pub record IsFurther (old new : SortedArcs) : Type 0 where
  pub cursor : old.cursor ≤ new.cursor
  pub arcs : (i : ℕ) → i < old.cursor → arc_at new.arcs.items i ≡ arc_at old.arcs.items i

-- where there was a free end there is one, and it is no further from its row
abbrev pub IsNoFurther : List ℕ → Option FreeEnd → Option FreeEnd → Type 0
IsNoFurther values None e = Unit {0}
IsNoFurther values (Some o) None = ⊥
IsNoFurther values (Some o) (Some e) = e.label.weight + number values o.label.row ≤ o.label.weight + number values e.label.row

-- each class of the row is one of the arcs before the cursor, or no nearer than the free end
abbrev pub IsSought : (ℕ → Option ℕ) → List ℕ → ℕ → Option FreeEnd → SortedArcs → Type 0
IsSought ws values k free_end l = (limit : Option ℕ) → IsLimit values k free_end limit → IsScanned ws l limit

-- so it is with the reached rows from one place of their order up to another
abbrev pub AreSought : Instance → Assignment → SearchTree → List SortedArcs → ℕ → ℕ → Type 0
AreSought t s tree arcs_by_kind from upto = (i : ℕ) (d : SortedArcs) → from ≤ i → i < upto
    → IsSought (weights t (row_at tree.reached_rows i)) s.values.items (row_at tree.reached_rows i) tree.labels.free_end (slice_index_or arcs_by_kind (kind_at t.kinds.now (row_at tree.reached_rows i)) d)

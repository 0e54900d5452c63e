-- What a class weighs in each row.
use Rattle.std.specs.Prelude.{◌≡◌, ℕ, Option, Some, List, length, slice_get}
use Rattle.certificate.specs.RowView.{RowView}
use Rattle.twins.specs.Kinds.{offers_of, kind_at, AreKinds}
use Rattle.transport.specs.SortedArcs.{weight_of, IsSortedArcs, IsNewSortedArcs}
use Rattle.transport.specs.declared.arcs.SortedArcs.{SortedArcs}
use Rattle.transport.specs.declared.instance.Instance.{Instance}

-- the weight of a class in a row, if it has one
abbrev pub class_weight : List RowView → List ℕ → ℕ → ℕ → Option ℕ
class_weight rows firsts k g = weight_of (offers_of rows k) firsts g

abbrev pub weights : Instance → ℕ → ℕ → Option ℕ
weights t = class_weight t.rows.now t.firsts

-- those of the first rows that are the first of their kind have their sorted arcs, of which no offer is opened
pub record AreNewSortedArcs (rows : List RowView) (kinds : List ℕ) (arcs_by_kind : List SortedArcs) (upto : ℕ) : Type 0 where
  pub long : length arcs_by_kind ≡ upto
  pub each : (k : ℕ) (l : SortedArcs) → slice_get arcs_by_kind k ≡ Some l → kind_at kinds k ≡ k → IsNewSortedArcs (offers_of rows k) l

-- each row that is the first of its kind has its sorted arcs, and the rows of a kind share them
pub record AreSortedArcs (t : Instance) (residual : List ℕ) (arcs_by_kind : List SortedArcs) : Type 0 where
  pub long : length arcs_by_kind ≡ length t.rows.now
  pub kinds : AreKinds t.rows.now (length t.rows.now) t.kinds.now
  pub each : (k : ℕ) (l : SortedArcs) → slice_get arcs_by_kind k ≡ Some l → kind_at t.kinds.now k ≡ k → IsSortedArcs (weights t k) (offers_of t.rows.now k) t.firsts residual l

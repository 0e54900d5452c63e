-- What holds in the course of a search.
use Rattle.std.specs.Prelude.{◌≡◌, ℕ, ◌+◌, ◌-◌, ◌*◌, ◌^◌, ◌<◌, ◌≤◌, Bool, true, false, List, [], ◌∷◌, ◌++◌, Option, Some, None, ◌⊎◌, length, slice_index_or, slice_set}
use Rattle.certificate.specs.declared.limits.TheConstants.{MAX_ROWS, MAX_WEIGHT}
use Rattle.transport.specs.Numbers.{number, is_marked, IsIn, IsListing}
use Rattle.transport.specs.ReachedRows.{IsReachedRows, is_reached, parent_class, bottleneck, index, row_at}
use Rattle.transport.specs.Duals.{IsDual}
use Rattle.transport.specs.declared.tree.ReachedRows.{ReachedRows}
use Rattle.transport.specs.declared.labels.Label.{Label}
use Rattle.transport.specs.declared.labels.FreeEnd.{FreeEnd}
use Rattle.transport.specs.declared.labels.Labels.{Labels}
use Rattle.transport.specs.declared.tree.TreeClasses.{TreeClasses}

abbrev pub label_of : Labels → ℕ → Option Label
label_of ns g = slice_index_or ns.of_class.items g None

abbrev pub is_taken : TreeClasses → ℕ → Bool
is_taken ts g = is_marked ts.taken.items g

-- a class is labelled with a reached row that has a weight for it, and has no free CPU
pub record IsLabelled (ws : ℕ → ℕ → Option ℕ) (residual : List ℕ) (q : ReachedRows) (g : ℕ) (n : Label) : Type 0 where
  pub there : is_reached q n.row ≡ true
  pub weighs : ws n.row g ≡ Some n.weight
  pub full : number residual g ≡ 0

-- a class has a label
pub record HasLabel (ns : Labels) (g : ℕ) : Type 0 where
  pub label : Label
  pub its : label_of ns g ≡ Some label

-- no value comes to this
abbrev pub never : ℕ
never = 2 ^ 64 - 1

-- a class with no label is never due
abbrev pub AreNeverDue : List (Option Label) → List ℕ → Type 0
AreNeverDue of_class due = (g : ℕ) → g < length of_class → slice_index_or of_class g None ≡ None → number due g ≡ never

-- a class with a free CPU, and a reached row that has a weight for it
pub record IsFreeEnd (ws : ℕ → ℕ → Option ℕ) (residual : List ℕ) (q : ReachedRows) (e : FreeEnd) : Type 0 where
  pub there : is_reached q e.label.row ≡ true
  pub weighs : ws e.label.row e.class ≡ Some e.label.weight
  pub some_free : 0 < number residual e.class

-- a row's value is the weight with which the class is labelled, with the price
pub record IsLinked (values prices : List ℕ) (ns : Labels) (g : ℕ) : Type 0 where
  pub label : Label
  pub its : label_of ns g ≡ Some label
  pub equal : number values label.row ≡ label.weight + number prices g

-- a reached row holds some of the class through which it was reached, and the row before it was reached earlier
pub record IsEntered (cells : ℕ → ℕ → ℕ) (q : ReachedRows) (ns : Labels) (ts : TreeClasses) (k : ℕ) : Type 0 where
  pub taken : is_taken ts (parent_class q k) ≡ true
  pub held : bottleneck q k ≤ cells k (parent_class q k)
  pub label : Label
  pub its : label_of ns (parent_class q k) ≡ Some label
  pub before : index q label.row < index q k
  pub less : bottleneck q k ≤ bottleneck q label.row

-- no weight is as high as this
abbrev pub weight_limit : ℕ
weight_limit = MAX_WEIGHT + 1

-- between searches no value and no price is above this: each row on the path between two adds a weight at most
abbrev pub most : ℕ
most = 2 * MAX_ROWS * weight_limit

-- and in a search none above this
abbrev pub top : ℕ
top = 4 * most

-- a row's value is as far from the root's as the classes between them allow
pub record IsClose (values : List ℕ) (q : ReachedRows) (k : ℕ) : Type 0 where
  pub up : number values k ≤ number values (row_at q 0) + index q k * weight_limit
  pub down : number values (row_at q 0) ≤ number values k + index q k * weight_limit

pub record IsSearch (ws : ℕ → ℕ → Option ℕ) (cells : ℕ → ℕ → ℕ) (values prices residual : List ℕ) (q : ReachedRows) (ns : Labels) (ts : TreeClasses) : Type 0 where
  pub reached_rows : IsReachedRows (length values) q
  pub listing : IsListing ts.order.items ts.taken.items
  pub taken_long : length ts.taken.items ≡ length prices
  pub labels_long : length ns.of_class.items ≡ length prices
  pub due_long : length ns.due.items ≡ length prices
  pub residual_long : length residual ≡ length prices
  pub dual : IsDual ws values prices cells residual
  pub rooted : 0 < length q.order.items
  pub entries : (k : ℕ) → is_reached q k ≡ true → 0 < index q k → IsEntered cells q ns ts k
  pub bottlenecks : (k : ℕ) → is_reached q k ≡ true → 0 < bottleneck q k
  pub labelled : (g : ℕ) (n : Label) → label_of ns g ≡ Some n → IsLabelled ws residual q g n
  pub listed : (g : ℕ) (n : Label) → label_of ns g ≡ Some n → is_taken ts g ≡ false → IsIn ns.labelled.items g
  pub labelled_in : (i : ℕ) → i < length ns.labelled.items → number ns.labelled.items i < length prices
  pub unlabelled : AreNeverDue ns.of_class.items ns.due.items
  pub seen : (i : ℕ) → i < length ns.labelled.items → HasLabel ns (number ns.labelled.items i)
  pub due : (g : ℕ) (n : Label) → label_of ns g ≡ Some n → is_taken ts g ≡ false → number ns.due.items g + number values n.row ≡ n.weight + (number prices g + number values (row_at q 0))
  pub linked : (g : ℕ) → is_taken ts g ≡ true → IsLinked values prices ns g
  pub holders : (k g : ℕ) → is_taken ts g ≡ true → 0 < cells k g → is_reached q k ≡ true
  pub free_end : (e : FreeEnd) → ns.free_end ≡ Some e → IsFreeEnd ws residual q e
  pub close : (k : ℕ) → is_reached q k ≡ true → IsClose values q k
  pub others_low : (k : ℕ) → is_reached q k ≡ false → number values k ≤ most
  pub prices_low : (g : ℕ) → is_taken ts g ≡ false → number prices g ≤ most
  pub values_fit : (k : ℕ) → number values k ≤ top
  pub prices_fit : (g : ℕ) → number prices g ≤ top

-- a class is labelled with a row that is no further from it
pub record IsNearer (values : List ℕ) (ns : Labels) (k g w : ℕ) : Type 0 where
  pub label : Label
  pub its : label_of ns g ≡ Some label
  pub least : label.weight + number values k ≤ w + number values label.row

-- the free end is no further from its row than the class from this one
pub record IsPastFreeEnd (values prices : List ℕ) (ns : Labels) (k g w : ℕ) : Type 0 where
  pub free_end : FreeEnd
  pub its : ns.free_end ≡ Some free_end
  pub least : free_end.label.weight + number values k ≤ w + number prices g + number values free_end.label.row

abbrev pub IsCovered : List ℕ → List ℕ → Labels → ℕ → ℕ → ℕ → Type 0
IsCovered values prices ns k g w = IsNearer values ns k g w ⊎ IsPastFreeEnd values prices ns k g w

-- the classes of the rows up to some place that are not taken up
pub record AllCovered (ws : ℕ → ℕ → Option ℕ) (values prices : List ℕ) (q : ReachedRows) (ns : Labels) (ts : TreeClasses) (scanned : ℕ) : Type 0 where
  pub covered : (k g w : ℕ) → is_reached q k ≡ true → index q k < scanned → ws k g ≡ Some w → is_taken ts g ≡ false → IsCovered values prices ns k g w

-- one class more is taken up
pub record IsTaken (old new : TreeClasses) (g : ℕ) : Type 0 where
  pub taken : new.taken.items ≡ slice_set old.taken.items g true
  pub order : new.order.items ≡ old.order.items ++ g ∷ []

-- a slack, where neither the free end's nor that of a labelled class is less
pub record IsLeast (values prices : List ℕ) (ns : Labels) (ts : TreeClasses) (by : ℕ) : Type 0 where
  pub free_end : (e : FreeEnd) → ns.free_end ≡ Some e → by + number values e.label.row ≤ e.label.weight + number prices e.class
  pub labelled : (g : ℕ) (n : Label) → label_of ns g ≡ Some n → is_taken ts g ≡ false → by + number values n.row ≤ n.weight + number prices g

-- the free end lies at that slack
pub record IsFreeEndAt (values prices : List ℕ) (ns : Labels) (by : ℕ) : Type 0 where
  pub free_end : FreeEnd
  pub its : ns.free_end ≡ Some free_end
  pub equal : by + number values free_end.label.row ≡ free_end.label.weight + number prices free_end.class

-- a labelled class that is not taken up lies at that slack
pub record IsSlack (values prices : List ℕ) (ns : Labels) (ts : TreeClasses) (g by : ℕ) : Type 0 where
  pub label : Label
  pub its : label_of ns g ≡ Some label
  pub left : is_taken ts g ≡ false
  pub equal : by + number values label.row ≡ label.weight + number prices g

-- the free end lies at that slack, or some class
abbrev pub IsAttained : List ℕ → List ℕ → Labels → TreeClasses → ℕ → Type 0
IsAttained values prices ns ts by = IsFreeEndAt values prices ns by ⊎ ((g : ℕ) × IsSlack values prices ns ts g by)

-- rows and weights are within their limits
pub record AreWeights (ws : ℕ → ℕ → Option ℕ) (rows classes : ℕ) : Type 0 where
  pub few : rows ≤ MAX_ROWS
  pub low : (k g w : ℕ) → ws k g ≡ Some w → w < weight_limit
  pub class : (k g w : ℕ) → ws k g ≡ Some w → g < classes

-- What a scan of a row labels.
use Rattle.std.specs.Prelude.{◌≡◌, ℕ, ◌+◌, ◌-◌, ◌<◌, ◌≤◌, ◌^◌, true, false, Option, Some, None, List, ◌⊎◌, length, slice_index_or}
use Rattle.transport.specs.Numbers.{number, IsIn}
use Rattle.transport.specs.ReachedRows.{is_reached, row_at}
use Rattle.transport.specs.Searches.{label_of, is_taken, IsCovered, top, weight_limit}
use Rattle.transport.specs.States.{IsRunning}
use Rattle.transport.specs.declared.labels.Label.{Label}
use Rattle.transport.specs.declared.labels.FreeEnd.{FreeEnd}
use Rattle.transport.specs.declared.labels.Labels.{Labels}
use Rattle.transport.specs.declared.assignment.Assignment.{Assignment}
use Rattle.transport.specs.declared.tree.SearchTree.{SearchTree}
use Rattle.transport.specs.declared.arcs.Arc.{Arc}
use Rattle.transport.specs.declared.search.Scan.{Scan}
use Rattle.transport.specs.declared.tree.ReachedRows.{ReachedRows}

-- a weight is at the limit or above it
abbrev pub IsPast : Option ℕ → ℕ → Type 0
IsPast None w = ⊥
IsPast (Some limit) w = limit ≤ w

-- from a row, the free end lies at that weight
abbrev pub IsLimit : List ℕ → ℕ → Option FreeEnd → Option ℕ → Type 0
IsLimit values k None None = Unit {0}
IsLimit values k None (Some l) = ⊥
IsLimit values k (Some e) None = ⊥
IsLimit values k (Some e) (Some l) = l + number values e.label.row ≡ e.label.weight + number values k

-- the limit, or where there is none a number that no weight with a price comes to
abbrev pub IsBoundOf : Option ℕ → ℕ → Type 0
IsBoundOf None bound = bound ≡ 2 ^ 64 - 1
IsBoundOf (Some limit) bound = bound ≡ limit

-- the values by which a row is scanned
pub record IsScan (s : Assignment) (q : ReachedRows) (scan : Scan) : Type 0 where
  pub row : scan.row_value ≡ number s.values.items scan.row
  pub root : scan.root_value ≡ number s.values.items (row_at q 0)

-- rows in range, and a free end no nearer than its row's value allows
pub record CanLimit (values : List ℕ) (k : ℕ) (free_end : Option FreeEnd) : Type 0 where
  pub row : k < length values
  pub fits : number values k ≤ top
  pub free_end_row : (e : FreeEnd) → free_end ≡ Some e → e.label.row < length values
  pub above : (e : FreeEnd) → free_end ≡ Some e → number values e.label.row ≤ e.label.weight
  pub light : (e : FreeEnd) → free_end ≡ Some e → e.label.weight < weight_limit

-- a label that a class may get, by which it is at slack 0 where the root's value is the last number; the class's price with the
-- root's value is what lies above its weight
pub record CanImprove (values : List ℕ) (above : ℕ) (ns : Labels) (g : ℕ) (label : Label) (due : ℕ) : Type 0 where
  pub class : g < length ns.of_class.items
  pub due_class : g < length ns.due.items
  pub is_due : due + number values label.row ≡ label.weight + above
  pub before : (n : Label) → label_of ns g ≡ Some n → number ns.due.items g + number values n.row ≡ n.weight + above
  pub unlabelled : label_of ns g ≡ None → due < number ns.due.items g
  pub listed : (n : Label) → label_of ns g ≡ Some n → IsIn ns.labelled.items g

-- a class is labelled with this row, unless it was labelled with one that is no further
pub record IsLabelledNow (values : List ℕ) (above : ℕ) (old new : Labels) (g : ℕ) (label : Label) : Type 0 where
  pub free_end : new.free_end ≡ old.free_end
  pub long : length new.of_class.items ≡ length old.of_class.items
  pub due_long : length new.due.items ≡ length old.due.items
  pub due_others : (h : ℕ) → (h ≡ g → ⊥) → number new.due.items h ≡ number old.due.items h
  pub others : (h : ℕ) → (h ≡ g → ⊥) → label_of new h ≡ label_of old h
  pub now : Label
  pub its : label_of new g ≡ Some now
  pub choice : (now ≡ label) ⊎ (label_of old g ≡ Some now)
  pub less : now.weight + number values label.row ≤ label.weight + number values now.row
  pub better : (n : Label) → label_of old g ≡ Some n → now.weight + number values n.row ≤ n.weight + number values now.row
  pub kept : (h : ℕ) → IsIn old.labelled.items h → IsIn new.labelled.items h
  pub listed : IsIn new.labelled.items g
  pub members : (i : ℕ) → i < length new.labelled.items → IsIn old.labelled.items (number new.labelled.items i) ⊎ (number new.labelled.items i ≡ g)
  pub is_due : number new.due.items g + number values now.row ≡ now.weight + above

abbrev pub arc_at : List Arc → ℕ → Arc
arc_at arcs i = slice_index_or arcs i (record { weight = 0; class = 0 })

abbrev pub AreRising : List Arc → Type 0
AreRising arcs = (i j : ℕ) → i ≤ j → j < length arcs → (arc_at arcs i).weight ≤ (arc_at arcs j).weight

-- only labels of classes are changed, for the better
pub record IsBetter (ws : ℕ → ℕ → Option ℕ) (s : Assignment) (old new : SearchTree) : Type 0 where
  pub running : IsRunning ws s new
  pub covers : (k g w : ℕ) → IsCovered s.values.items s.prices.items old.labels k g w → IsCovered s.values.items s.prices.items new.labels k g w
  pub reached_rows : new.reached_rows ≡ old.reached_rows
  pub tree_classes : new.tree_classes ≡ old.tree_classes

-- a reached row has that weight for a full class that is not taken up
pub record CanLabelArc (ws : ℕ → ℕ → Option ℕ) (s : Assignment) (t : SearchTree) (k : ℕ) (arc : Arc) : Type 0 where
  pub running : IsRunning ws s t
  pub there : is_reached t.reached_rows k ≡ true
  pub weighs : ws k arc.class ≡ Some arc.weight
  pub full : number s.residual.items arc.class ≡ 0
  pub left : is_taken t.tree_classes arc.class ≡ false

-- the class is labelled, or lies past the free end
pub record IsArcLabelled (ws : ℕ → ℕ → Option ℕ) (s : Assignment) (k : ℕ) (old new : SearchTree) (arc : Arc) : Type 0 where
  pub better : IsBetter ws s old new
  pub free_end : new.labels.free_end ≡ old.labels.free_end
  pub own : IsCovered s.values.items s.prices.items new.labels k arc.class arc.weight

-- the first arcs of a row are labelled, except for those of classes taken up
pub record HasLabelled (ws : ℕ → ℕ → Option ℕ) (s : Assignment) (k : ℕ) (old new : SearchTree) (arcs : List Arc) (upto : ℕ) : Type 0 where
  pub better : IsBetter ws s old new
  pub free_end : new.labels.free_end ≡ old.labels.free_end
  pub each : (i : ℕ) → i < upto → is_taken new.tree_classes (arc_at arcs i).class ≡ false
      → IsCovered s.values.items s.prices.items new.labels k (arc_at arcs i).class (arc_at arcs i).weight

-- a reached row has these weights for the classes of the first arcs, which are full
pub record CanLabelArcs (ws : ℕ → ℕ → Option ℕ) (s : Assignment) (t : SearchTree) (k : ℕ) (arcs : List Arc) (upto : ℕ) : Type 0 where
  pub running : IsRunning ws s t
  pub there : is_reached t.reached_rows k ≡ true
  pub weighs : (i : ℕ) → i < upto → ws k (arc_at arcs i).class ≡ Some (arc_at arcs i).weight
  pub full : (i : ℕ) → i < upto → number s.residual.items (arc_at arcs i).class ≡ 0

-- the arcs of a row from one place up to another are labelled, except for those of classes taken up
pub record HasLabelledFrom (ws : ℕ → ℕ → Option ℕ) (s : Assignment) (k : ℕ) (old new : SearchTree) (arcs : List Arc) (from upto : ℕ) : Type 0 where
  pub better : IsBetter ws s old new
  pub free_end : new.labels.free_end ≡ old.labels.free_end
  pub each : (i : ℕ) → from ≤ i → i < upto → is_taken new.tree_classes (arc_at arcs i).class ≡ false
      → IsCovered s.values.items s.prices.items new.labels k (arc_at arcs i).class (arc_at arcs i).weight

-- a row was scanned: its classes that are not taken up are covered
pub record IsSeen (ws : ℕ → ℕ → Option ℕ) (s : Assignment) (k : ℕ) (old new : SearchTree) : Type 0 where
  pub better : IsBetter ws s old new
  pub own : (g w : ℕ) → ws k g ≡ Some w → is_taken new.tree_classes g ≡ false → IsCovered s.values.items s.prices.items new.labels k g w

pub record IsNewFreeEnd (old new : Labels) (k : ℕ) (arc : Arc) : Type 0 where
  pub of_class : new.of_class ≡ old.of_class
  pub due : new.due ≡ old.due
  pub labelled : new.labelled ≡ old.labelled
  pub free_end : new.free_end ≡ Some (record { class = arc.class; label = record { row = k; weight = arc.weight } })

-- the free end is the class that was found from the row, or what it was where none was
abbrev pub IsFreeEndLabelled : Labels → Labels → ℕ → Option Arc → Type 0
IsFreeEndLabelled old new k None = new ≡ old
IsFreeEndLabelled old new k (Some arc) = IsNewFreeEnd old new k arc

-- Rows and classes between two searches, and in one.
use Rattle.std.specs.Prelude.{◌≡◌, ℕ, ◌+◌, ◌<◌, ◌≤◌, Bool, true, false, not, ◌⊎◌, Option, Some, None, List, [], ◌∷◌, ◌++◌, length, slice_index_or}
use Rattle.std.specs.List.{filter}
use Rattle.transport.specs.Numbers.{number, is_marked, IsIn, IsEachOnce}
use Rattle.transport.specs.Shares.{AllBelow, holders_of, HasNoShare}
use Rattle.twins.specs.Holdings.{share_of}
use Rattle.transport.specs.ReachedRows.{IsReachedRows, IsGrown, bottleneck, row_at}
use Rattle.transport.specs.Searches.{label_of, is_taken, top, IsSearch, AllCovered, IsFreeEndAt, IsSlack, IsTaken, AreWeights}
use Rattle.transport.specs.declared.labels.Label.{Label}
use Rattle.transport.specs.declared.labels.FreeEnd.{FreeEnd}
use Rattle.transport.specs.declared.labels.Labels.{Labels}
use Rattle.transport.specs.declared.tree.TreeClasses.{TreeClasses}
use Rattle.twins.specs.declared.holders.Share.{Share}
use Rattle.transport.specs.declared.assignment.Assignment.{Assignment}
use Rattle.transport.specs.declared.tree.ReachedRows.{ReachedRows}
use Rattle.transport.specs.declared.tree.SearchTree.{SearchTree}

-- the shares of a class
abbrev pub shares_of : List (List Share) → ℕ → List Share
shares_of holdings g = slice_index_or holdings g []

-- how many CPUs of a class a row holds
abbrev pub cell : List (List Share) → ℕ → ℕ → ℕ
cell holdings k g = share_of k (shares_of holdings g)

-- holdings of so many classes, by so many rows, none of which stands in two shares of a class
pub record AreHoldings (rows classes : ℕ) (holdings : List (List Share)) : Type 0 where
  pub long : length holdings ≡ classes
  pub rows_in : (g : ℕ) → AllBelow rows (shares_of holdings g)
  pub once : (g : ℕ) → IsEachOnce (holders_of (shares_of holdings g))

-- the row stands in no share of any class
abbrev pub IsNoHolder : ℕ → List (List Share) → Type 0
IsNoHolder k holdings = (g : ℕ) → HasNoShare k (shares_of holdings g)

-- what holds in the course of a search
pub record IsRunning (ws : ℕ → ℕ → Option ℕ) (s : Assignment) (t : SearchTree) : Type 0 where
  pub fit : AreWeights ws (length s.values.items) (length s.prices.items)
  pub search : IsSearch ws (cell s.holdings.items) s.values.items s.prices.items s.residual.items t.reached_rows t.labels t.tree_classes
  pub holdings : AreHoldings (length s.values.items) (length s.prices.items) s.holdings.items

-- labels and classes taken up are those of a search that runs from that row
pub record AreRunning (s : Assignment) (ns : Labels) (ts : TreeClasses) (root : ℕ) : Type 0 where
  pub ws : ℕ → ℕ → Option ℕ
  pub tree : SearchTree
  pub running : IsRunning ws s (record { reached_rows = tree.reached_rows; labels = ns; tree_classes = ts; nearest = tree.nearest })
  pub root_at : row_at tree.reached_rows 0 ≡ root

-- the classes of the rows up to some place that are not taken up are covered
abbrev pub HasScanned : (ℕ → ℕ → Option ℕ) → Assignment → SearchTree → ℕ → Type 0
HasScanned ws s t scanned = AllCovered ws s.values.items s.prices.items t.reached_rows t.labels t.tree_classes scanned

-- a class is taken up, and its holders are reached
pub record IsTakenUp (old new : SearchTree) (g k : ℕ) (shares : List Share) : Type 0 where
  pub taken : IsTaken old.tree_classes new.tree_classes g
  pub reached_rows : IsReachedRows (length old.reached_rows.reached.items) new.reached_rows
  pub grown : IsGrown old.reached_rows new.reached_rows g (bottleneck old.reached_rows k) shares shares
  pub labels : new.labels ≡ old.labels
  pub nearest : new.nearest ≡ old.nearest

-- both begin at the same row, with the same bottleneck
pub record IsSameRoot (old new : ReachedRows) : Type 0 where
  pub row : row_at new 0 ≡ row_at old 0
  pub bottlenecks : bottleneck new (row_at old 0) ≡ bottleneck old (row_at old 0)

-- the classes of a list that are at slack 0 are taken up
pub record HasTaken (s : Assignment) (old new : SearchTree) (done : List ℕ) : Type 0 where
  pub running : (ws : ℕ → ℕ → Option ℕ) → IsRunning ws s old → IsRunning ws s new
  pub scanned : (ws : ℕ → ℕ → Option ℕ) (upto : ℕ) → upto ≤ length old.reached_rows.order.items → IsRunning ws s old → HasScanned ws s old upto → HasScanned ws s new upto
  pub labels : new.labels ≡ old.labels
  pub nearest : new.nearest ≡ old.nearest
  pub longer : length old.reached_rows.order.items ≤ length new.reached_rows.order.items
  pub root : (ws : ℕ → ℕ → Option ℕ) → IsRunning ws s old → IsSameRoot old.reached_rows new.reached_rows
  pub kept : (g : ℕ) → is_taken old.tree_classes g ≡ true → is_taken new.tree_classes g ≡ true
  pub before : (i : ℕ) → i < length old.tree_classes.order.items → number new.tree_classes.order.items i ≡ number old.tree_classes.order.items i
  pub all : (i : ℕ) (n : Label) → i < length done → label_of old.labels (number done i) ≡ Some n
      → number s.values.items n.row ≡ n.weight + number s.prices.items (number done i) → is_taken new.tree_classes (number done i) ≡ true
  pub grew : (new.tree_classes ≡ old.tree_classes) ⊎ (length old.tree_classes.order.items < length new.tree_classes.order.items)

-- the classes that are marked stand in the list no more
pub record IsStruck (taken : List Bool) (old new : Labels) : Type 0 where
  pub labelled : new.labelled.items ≡ filter (λ g. not (is_marked taken g)) old.labelled.items
  pub of_class : new.of_class ≡ old.of_class
  pub due : new.due ≡ old.due
  pub free_end : new.free_end ≡ old.free_end

-- the classes taken up are struck out of the list of labelled ones, or nothing changes
pub record AreStruckOrSame (old new : SearchTree) : Type 0 where
  pub labels : (new.labels ≡ old.labels) ⊎ IsStruck old.tree_classes.taken.items old.labels new.labels
  pub reached_rows : new.reached_rows ≡ old.reached_rows
  pub tree_classes : new.tree_classes ≡ old.tree_classes

-- neither a free end nor a class of these is left
pub record IsNoneLeft (ns : Labels) (ts : TreeClasses) (done : List ℕ) : Type 0 where
  pub free_end : ns.free_end ≡ None
  pub labelled : (i : ℕ) (n : Label) → i < length done → label_of ns (number done i) ≡ Some n → is_taken ts (number done i) ≡ true

-- the least slack of the free end and of those of these classes that are not taken up, and the list of those that have it
pub record IsLeastOf (values prices : List ℕ) (ns : Labels) (ts : TreeClasses) (done nearest : List ℕ) (by : ℕ) : Type 0 where
  pub free_end : (e : FreeEnd) → ns.free_end ≡ Some e → by + number values e.label.row ≤ e.label.weight + number prices e.class
  pub labelled : (i : ℕ) (n : Label) → i < length done → label_of ns (number done i) ≡ Some n → is_taken ts (number done i) ≡ false
      → by + number values n.row ≤ n.weight + number prices (number done i)
  pub each : (i : ℕ) → i < length nearest → IsSlack values prices ns ts (number nearest i) by
  pub all : (i : ℕ) → i < length done → IsSlack values prices ns ts (number done i) by → IsIn nearest (number done i)
  pub attained : IsFreeEndAt values prices ns by ⊎ (0 < length nearest)

abbrev pub IsLeastUpTo : List ℕ → List ℕ → Labels → TreeClasses → List ℕ → List ℕ → Option ℕ → Type 0
IsLeastUpTo values prices ns ts done nearest None = IsNoneLeft ns ts done
IsLeastUpTo values prices ns ts done nearest (Some by) = IsLeastOf values prices ns ts done nearest by

-- the least slack so far stays, which is less than the next
pub record IsStill (least : Option ℕ) (slack : ℕ) (old new : List ℕ) (by : ℕ) : Type 0 where
  pub its : least ≡ Some by
  pub less : by < slack
  pub same : new ≡ old

-- the next class has it too
pub record IsShared (least : Option ℕ) (g slack : ℕ) (old new : List ℕ) (by : ℕ) : Type 0 where
  pub its : least ≡ Some by
  pub equal : by ≡ slack
  pub more : new ≡ old ++ g ∷ []

-- the next class has less than those so far
pub record IsLess (least : Option ℕ) (g slack : ℕ) (new : List ℕ) (by : ℕ) : Type 0 where
  pub before : (b : ℕ) → least ≡ Some b → slack < b
  pub equal : by ≡ slack
  pub alone : new ≡ g ∷ []

abbrev pub IsLesser : Option ℕ → ℕ → ℕ → List ℕ → List ℕ → ℕ → Type 0
IsLesser least g slack old new by = IsStill least slack old new by ⊎ IsShared least g slack old new by ⊎ IsLess least g slack new by

abbrev pub IsTakenOrUnseen : Labels → TreeClasses → ℕ → Type 0
IsTakenOrUnseen ns ts g = (n : Label) → label_of ns g ≡ Some n → is_taken ts g ≡ true

-- what a search knows of a class that is labelled, or of the free end
pub record IsInReach (s : Assignment) (t : SearchTree) (g : ℕ) (n : Label) : Type 0 where
  pub class : g < length s.prices.items
  pub row : n.row < length s.values.items
  pub fits : number s.prices.items g ≤ top
  pub below : number s.values.items n.row ≤ n.weight + number s.prices.items g
  pub in_bottlenecks : n.row < length t.reached_rows.bottleneck.items
  pub some_bottleneck : 0 < bottleneck t.reached_rows n.row

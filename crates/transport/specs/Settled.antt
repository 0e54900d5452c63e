-- What stands between two searches, and a search at its start.
use Rattle.std.specs.Prelude.{◌≡◌, ℕ, ◌<◌, ◌≤◌, false, List, Option, Some, None, [], ◌⊎◌, length, slice_index_or}
use Rattle.transport.specs.Numbers.{number, IsIn, IsListing}
use Rattle.transport.specs.ReachedRows.{IsReachedRows, IsAtRoot}
use Rattle.transport.specs.Duals.{IsDual}
use Rattle.transport.specs.Searches.{label_of, is_taken, most, AreNeverDue, AreWeights}
use Rattle.transport.specs.States.{cell, AreHoldings}
use Rattle.transport.specs.declared.labels.Label.{Label}
use Rattle.transport.specs.declared.labels.Labels.{Labels}
use Rattle.transport.specs.declared.tree.TreeClasses.{TreeClasses}
use Rattle.transport.specs.declared.assignment.Assignment.{Assignment}
use Rattle.transport.specs.declared.tree.SearchTree.{SearchTree}

pub record IsSettled (ws : ℕ → ℕ → Option ℕ) (s : Assignment) : Type 0 where
  pub fit : AreWeights ws (length s.values.items) (length s.prices.items)
  pub dual : IsDual ws s.values.items s.prices.items (cell s.holdings.items) s.residual.items
  pub residual_long : length s.residual.items ≡ length s.prices.items
  pub values_low : (k : ℕ) → number s.values.items k ≤ most
  pub prices_low : (g : ℕ) → number s.prices.items g ≤ most
  pub holdings : AreHoldings (length s.values.items) (length s.prices.items) s.holdings.items

-- no class is labelled, and there is no free end
pub record AreNoneLabelled (classes : ℕ) (ns : Labels) : Type 0 where
  pub labels_long : length ns.of_class.items ≡ classes
  pub due_long : length ns.due.items ≡ classes
  pub due : AreNeverDue ns.of_class.items ns.due.items
  pub of_class : (g : ℕ) → label_of ns g ≡ None
  pub labelled : ns.labelled.items ≡ []
  pub free_end : ns.free_end ≡ None

-- no class is taken up
pub record AreNoneTaken (classes : ℕ) (ts : TreeClasses) : Type 0 where
  pub taken_long : length ts.taken.items ≡ classes
  pub taken : (g : ℕ) → is_taken ts g ≡ false
  pub order : ts.order.items ≡ []

-- one row is reached, no class labelled or taken up
pub record IsFresh (rows classes root amount : ℕ) (t : SearchTree) : Type 0 where
  pub at_root : IsAtRoot rows root amount t.reached_rows
  pub labels : AreNoneLabelled classes t.labels
  pub tree_classes : AreNoneTaken classes t.tree_classes

-- each labelled class stands in the list, or among those taken up
pub record AreListed (ns : Labels) (taken : List ℕ) : Type 0 where
  pub all : (g : ℕ) (n : Label) → label_of ns g ≡ Some n → IsIn ns.labelled.items g ⊎ IsIn taken g
  pub due_long : length ns.due.items ≡ length ns.of_class.items
  pub unlabelled : AreNeverDue ns.of_class.items ns.due.items
  pub labelled_in : (i : ℕ) → i < length ns.labelled.items → number ns.labelled.items i < length ns.of_class.items
  pub taken_in : (i : ℕ) → i < length taken → number taken i < length ns.of_class.items

-- no class of the list is labelled any more, and none is newly labelled
pub record IsForgotten (old new : List (Option Label)) (classes : List ℕ) : Type 0 where
  pub long : length new ≡ length old
  pub none : (g : ℕ) → IsIn classes g → slice_index_or new g None ≡ None
  pub left : (g : ℕ) (n : Label) → slice_index_or new g None ≡ Some n → slice_index_or old g None ≡ Some n

-- lists name all that a search reached, labelled and took up
pub record IsTidy (rows classes : ℕ) (t : SearchTree) : Type 0 where
  pub reached_rows : IsReachedRows rows t.reached_rows
  pub labels_long : length t.labels.of_class.items ≡ classes
  pub labelled : AreListed t.labels t.tree_classes.order.items
  pub taken_long : length t.tree_classes.taken.items ≡ classes
  pub taken : IsListing t.tree_classes.order.items t.tree_classes.taken.items

abbrev pub IsTreeOf : Assignment → SearchTree → Type 0
IsTreeOf s t = IsTidy (length s.values.items) (length s.prices.items) t

-- The rows, as they are assigned one after another.
use Rattle.std.specs.Prelude.{◌≡◌, ℕ, ◌+◌, ◌*◌, ◌<◌, ◌≤◌, ◌^◌, Bool, true, false, List, [], map, length}
use Rattle.certificate.specs.RowView.{RowView}
use Rattle.transport.specs.Numbers.{number}
use Rattle.transport.specs.ReachedRows.{is_reached, row_at}
use Rattle.transport.specs.Weights.{weights, AreSortedArcs}
use Rattle.transport.specs.Totals.{total, row_total, class_total, IsShared}
use Rattle.transport.specs.States.{shares_of, cell, IsNoHolder}
use Rattle.transport.specs.Answers.{IsClosed}
use Rattle.transport.specs.Settled.{IsSettled, IsTreeOf}
use Rattle.transport.specs.Outcomes.{demand_of}
use Rattle.transport.specs.declared.assignment.Assignment.{Assignment}
use Rattle.transport.specs.declared.augment.Ended.{Ended}
use Rattle.transport.specs.declared.augment.Ended.TheVariants.{Met, Blocked, BrokenOff}
use Rattle.transport.specs.declared.instance.Instance.{Instance}
use Rattle.transport.specs.declared.tree.SearchTree.{SearchTree}
use Rattle.transport.specs.declared.arcs.SortedArcs.{SortedArcs}

-- nothing is held yet, and all values and prices are 0
pub record IsFirst (rows : List RowView) (sizes : List ℕ) (s : Assignment) : Type 0 where
  pub values_long : length s.values.items ≡ length rows
  pub values : (k : ℕ) → number s.values.items k ≡ 0
  pub prices_long : length s.prices.items ≡ length sizes
  pub prices : (g : ℕ) → number s.prices.items g ≡ 0
  pub residual : s.residual.items ≡ sizes
  pub deficit : s.deficit.items ≡ map (λ r. r.demand) rows
  pub holdings_long : length s.holdings.items ≡ length sizes
  pub holdings : (g : ℕ) → shares_of s.holdings.items g ≡ []

-- of what each row holds and wants, and of what is held and free of each class, there is as much as before;
-- no row but this one wants more or less, or comes to hold what it held nothing of
pub record IsHandedOut (root : ℕ) (old new : Assignment) : Type 0 where
  pub values_long : length new.values.items ≡ length old.values.items
  pub prices_long : length new.prices.items ≡ length old.prices.items
  pub deficit_long : length new.deficit.items ≡ length old.deficit.items
  pub by_row : (k : ℕ) → k < length old.values.items
      → row_total (cell new.holdings.items) (length old.prices.items) k + number new.deficit.items k ≡ row_total (cell old.holdings.items) (length old.prices.items) k + number old.deficit.items k
  pub by_class : (g : ℕ) → g < length old.prices.items
      → class_total (cell new.holdings.items) (length old.values.items) g + number new.residual.items g ≡ class_total (cell old.holdings.items) (length old.values.items) g + number old.residual.items g
  pub others : (k : ℕ) → (k ≡ root → ⊥) → number new.deficit.items k ≡ number old.deficit.items k
  pub none : (k : ℕ) → (k ≡ root → ⊥) → IsNoHolder k old.holdings.items → IsNoHolder k new.holdings.items

-- what a search takes up at most
abbrev pub a_search : Assignment → ℕ
a_search s = length s.values.items + length s.prices.items

-- a settled assignment, sorted arcs for each row, and turns that can be counted on until the row has what it asks for;
-- it holds nothing while it wants all of that
pub record CanAssign (t : Instance) (root : ℕ) (s : Assignment) (arcs_by_kind : List SortedArcs) (turns : ℕ) : Type 0 where
  pub settled : IsSettled (weights t) s
  pub sorted : AreSortedArcs t s.residual.items arcs_by_kind
  pub rows : length t.rows.now ≡ length s.values.items
  pub deficit_long : length s.deficit.items ≡ length s.values.items
  pub sizes : (g : ℕ) → class_total (cell s.holdings.items) (length s.values.items) g + number s.residual.items g < 2 ^ 32
  pub in_rows : root < length s.values.items
  pub wants : number s.deficit.items root ≤ demand_of t.rows.now root
  pub fresh : number s.deficit.items root ≡ demand_of t.rows.now root → IsNoHolder root s.holdings.items
  pub fits : turns + number s.deficit.items root * a_search s < 2 ^ 64

-- the row was searched for, once for each CPU that it wants less at most, and not at all where it wants as many
pub record IsAssigning (t : Instance) (root : ℕ) (old new : Assignment) (arcs_by_kind : List SortedArcs) (before after : ℕ) : Type 0 where
  pub settled : IsSettled (weights t) new
  pub sorted : AreSortedArcs t new.residual.items arcs_by_kind
  pub handed : IsHandedOut root old new
  pub kept : before ≤ after
  pub fewer : number new.deficit.items root ≤ number old.deficit.items root
  pub unsought : number new.deficit.items root ≡ number old.deficit.items root → new.holdings ≡ old.holdings
  pub most : after + number new.deficit.items root * a_search old ≤ before + number old.deficit.items root * a_search old
  pub least : number new.deficit.items root < number old.deficit.items root → before + 2 ≤ after

-- the last search for the row found no class with a free CPU
pub record IsAtEnd (t : Instance) (root : ℕ) (old new : Assignment) (tree : SearchTree) (before after : ℕ) : Type 0 where
  pub closed : IsClosed (weights t) new tree
  pub root_at : row_at tree.reached_rows 0 ≡ root
  pub on : is_reached tree.reached_rows root ≡ true
  pub lacks : 0 < number new.deficit.items root
  pub handed : IsHandedOut root old new
  pub most : after ≤ before + number old.deficit.items root * a_search old
  pub least : before + (length tree.reached_rows.order.items + length tree.tree_classes.order.items) ≤ after

-- whether a search found a class: the row wants less than before, and the next search can begin
abbrev pub IsSearched : Instance → ℕ → Assignment → Assignment → List SortedArcs → SearchTree → ℕ → ℕ → Bool → Type 0
IsSearched t root old new arcs_by_kind tree before after true = IsAssigning t root old new arcs_by_kind before after × (number new.deficit.items root < number old.deficit.items root) × IsTreeOf new tree
IsSearched t root old new arcs_by_kind tree before after false = IsAtEnd t root old new tree before after

-- what the searches for a row end with: it wants nothing more, it can't have it, or there are more turns than these
abbrev pub IsRowAssigned : Instance → ℕ → ℕ → Assignment → Assignment → List SortedArcs → SearchTree → ℕ → ℕ → Ended → Type 0
IsRowAssigned t root most old new arcs_by_kind tree before after Met = IsAssigning t root old new arcs_by_kind before after × (number new.deficit.items root ≡ 0) × IsTreeOf new tree
IsRowAssigned t root most old new arcs_by_kind tree before after Blocked = IsAtEnd t root old new tree before after
IsRowAssigned t root most old new arcs_by_kind tree before after BrokenOff = IsAssigning t root old new arcs_by_kind before after × (most < after)

-- the first rows have what they ask for, and the others hold nothing and still want it
pub record AreAssigned (t : Instance) (sizes : List ℕ) (s : Assignment) (arcs_by_kind : List SortedArcs) (upto turns : ℕ) : Type 0 where
  pub values_long : length s.values.items ≡ length t.rows.now
  pub prices_long : length s.prices.items ≡ length sizes
  pub deficit_long : length s.deficit.items ≡ length t.rows.now
  pub settled : IsSettled (weights t) s
  pub sorted : AreSortedArcs t s.residual.items arcs_by_kind
  pub shared : IsShared (demand_of t.rows.now) (number sizes) (length t.rows.now) (length sizes) (cell s.holdings.items) s.residual.items s.deficit.items
  pub met : (k : ℕ) → k < upto → number s.deficit.items k ≡ 0
  pub unassigned : (k : ℕ) → upto ≤ k → number s.deficit.items k ≡ demand_of t.rows.now k
  pub fresh : (k : ℕ) → upto ≤ k → IsNoHolder k s.holdings.items
  pub at_least : 2 * upto ≤ turns
  pub at_most : turns ≤ total (demand_of t.rows.now) upto * (length t.rows.now + length sizes)

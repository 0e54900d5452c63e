-- What a search ends with.
use Rattle.std.specs.Prelude.{◌≡◌, ℕ, ◌+◌, true, Option, Some, None}
use Rattle.transport.specs.Numbers.{number}
use Rattle.transport.specs.ReachedRows.{is_reached}
use Rattle.transport.specs.Searches.{is_taken}
use Rattle.transport.specs.States.{IsRunning}
use Rattle.transport.specs.declared.labels.FreeEnd.{FreeEnd}
use Rattle.transport.specs.declared.assignment.Assignment.{Assignment}
use Rattle.transport.specs.declared.tree.SearchTree.{SearchTree}

-- the reached rows have weights for classes that are taken up alone, all of whose CPUs they hold
pub record IsClosed (ws : ℕ → ℕ → Option ℕ) (s : Assignment) (t : SearchTree) : Type 0 where
  pub running : IsRunning ws s t
  pub only : (k g w : ℕ) → is_reached t.reached_rows k ≡ true → ws k g ≡ Some w → is_taken t.tree_classes g ≡ true

-- a class with a free CPU is at slack 0
pub record IsFound (ws : ℕ → ℕ → Option ℕ) (s : Assignment) (t : SearchTree) (e : FreeEnd) : Type 0 where
  pub running : IsRunning ws s t
  pub its : t.labels.free_end ≡ Some e
  pub equal : number s.values.items e.label.row ≡ e.label.weight + number s.prices.items e.class

abbrev pub IsAnswer : (ℕ → ℕ → Option ℕ) → Assignment → SearchTree → Option FreeEnd → Type 0
IsAnswer ws s t None = IsClosed ws s t
IsAnswer ws s t (Some e) = IsFound ws s t e

-- a search changes values and prices alone
pub record IsSameRest (old new : Assignment) : Type 0 where
  pub residual : new.residual ≡ old.residual
  pub deficit : new.deficit ≡ old.deficit
  pub holdings : new.holdings ≡ old.holdings

-- the free end is at slack 0, or there is none at slack 0
pub record IsFreeEndAt0 (s : Assignment) (t : SearchTree) (e : FreeEnd) : Type 0 where
  pub its : t.labels.free_end ≡ Some e
  pub equal : number s.values.items e.label.row ≡ e.label.weight + number s.prices.items e.class

abbrev pub IsNoFreeEndAt0 : Assignment → SearchTree → Type 0
IsNoFreeEndAt0 s t = (e : FreeEnd) → t.labels.free_end ≡ Some e → number s.values.items e.label.row ≡ e.label.weight + number s.prices.items e.class → ⊥

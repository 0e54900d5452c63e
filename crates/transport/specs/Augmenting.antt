-- CPUs as they move along the rows that a search has reached.
use Rattle.std.specs.Prelude.{◌≡◌, ℕ, ◌+◌, ◌<◌, ◌≤◌, ◌==◌, true, cond, List, Option}
use Rattle.transport.specs.ReachedRows.{is_reached, bottleneck, index}
use Rattle.transport.specs.Duals.{IsTight}
use Rattle.transport.specs.Totals.{row_total, class_total}
use Rattle.transport.specs.declared.tree.ReachedRows.{ReachedRows}
use Rattle.transport.specs.declared.assignment.Assignment.{Assignment}

-- so many CPUs of a class, where it is the one in hand
abbrev pub in_hand : ℕ → ℕ → ℕ → ℕ
in_hand g amount h = cond (h == g) amount 0

-- a row is given some CPUs of a class, or gives some up, and nothing else changes
pub record IsGiven (old new : ℕ → ℕ → ℕ) (k g amount : ℕ) : Type 0 where
  pub given : new k g ≡ old k g + amount
  pub others : (i j : ℕ) → (i ≡ k → j ≡ g → ⊥) → new i j ≡ old i j

pub record IsGivenUp (old new : ℕ → ℕ → ℕ) (k g amount : ℕ) : Type 0 where
  pub given_up : new k g + amount ≡ old k g
  pub others : (i j : ℕ) → (i ≡ k → j ≡ g → ⊥) → new i j ≡ old i j

-- the CPUs in hand are of class g and go to this row; they came from class `first`
pub record IsAugmenting (ws : ℕ → ℕ → Option ℕ) (values prices : List ℕ) (q : ReachedRows) (start cells : ℕ → ℕ → ℕ) (rows classes row g first amount : ℕ) : Type 0 where
  pub on : is_reached q row ≡ true
  pub link : IsTight ws values prices row g
  pub less : amount ≤ bottleneck q row
  pub same : (k h : ℕ) → is_reached q k ≡ true → index q k ≤ index q row → cells k h ≡ start k h
  pub tight : (k h : ℕ) → 0 < cells k h → IsTight ws values prices k h
  pub by_row : (k : ℕ) → k < rows → row_total cells classes k ≡ row_total start classes k
  pub by_class : (h : ℕ) → h < classes → class_total cells rows h + in_hand g amount h ≡ class_total start rows h + in_hand first amount h

-- holdings alone change
pub record IsSameButHoldings (old new : Assignment) : Type 0 where
  pub values : new.values ≡ old.values
  pub prices : new.prices ≡ old.prices
  pub residual : new.residual ≡ old.residual
  pub deficit : new.deficit ≡ old.deficit

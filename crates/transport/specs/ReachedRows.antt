-- The rows that a search has reached.
use Rattle.std.specs.Prelude.{◌≡◌, ℕ, ◌<◌, ◌≤◌, min, Bool, true, false, List, [], ◌∷◌, ◌++◌, length, slice_set}
use Rattle.std.specs.List.{count_by}
use Rattle.transport.specs.Numbers.{number, is_marked}
use Rattle.twins.specs.Holdings.{share_of}
use Rattle.twins.specs.declared.holders.Share.{Share}
use Rattle.transport.specs.declared.tree.ReachedRows.{ReachedRows}

abbrev pub is_reached : ReachedRows → ℕ → Bool
is_reached q k = is_marked q.reached.items k

abbrev pub parent_class : ReachedRows → ℕ → ℕ
parent_class q k = number q.parent_class.items k

abbrev pub bottleneck : ReachedRows → ℕ → ℕ
bottleneck q k = number q.bottleneck.items k

abbrev pub index : ReachedRows → ℕ → ℕ
index q k = number q.index.items k

abbrev pub row_at : ReachedRows → ℕ → ℕ
row_at q i = number q.order.items i

-- each reached row stands at its place, once
pub record IsReachedRows (rows : ℕ) (q : ReachedRows) : Type 0 where
  pub reached_long : length q.reached.items ≡ rows
  pub parent_class_long : length q.parent_class.items ≡ rows
  pub bottleneck_long : length q.bottleneck.items ≡ rows
  pub index_long : length q.index.items ≡ rows
  pub on : (i : ℕ) → i < length q.order.items → is_reached q (row_at q i) ≡ true
  pub at : (i : ℕ) → i < length q.order.items → index q (row_at q i) ≡ i
  pub within : (k : ℕ) → is_reached q k ≡ true → index q k < length q.order.items
  pub placed : (k : ℕ) → is_reached q k ≡ true → row_at q (index q k) ≡ k
  pub counted : count_by (λ b. b) q.reached.items ≡ length q.order.items

-- no row is reached
pub record IsUnreached (rows : ℕ) (q : ReachedRows) : Type 0 where
  pub reached_long : length q.reached.items ≡ rows
  pub parent_class_long : length q.parent_class.items ≡ rows
  pub bottleneck_long : length q.bottleneck.items ≡ rows
  pub index_long : length q.index.items ≡ rows
  pub none : (k : ℕ) → is_reached q k ≡ false
  pub order : q.order.items ≡ []

-- one row is reached
pub record IsAtRoot (rows root amount : ℕ) (q : ReachedRows) : Type 0 where
  pub reached_rows : IsReachedRows rows q
  pub one : length q.order.items ≡ 1
  pub root_at : row_at q 0 ≡ root
  pub only : (k : ℕ) → is_reached q k ≡ true → k ≡ root
  pub some_bottleneck : bottleneck q root ≡ amount

-- one row more is reached
pub record IsReached (old new : ReachedRows) (k g amount : ℕ) : Type 0 where
  pub reached : new.reached.items ≡ slice_set old.reached.items k true
  pub order : new.order.items ≡ old.order.items ++ k ∷ []
  pub by : new.parent_class.items ≡ slice_set old.parent_class.items k g
  pub bottlenecks : new.bottleneck.items ≡ slice_set old.bottleneck.items k amount
  pub indices : new.index.items ≡ slice_set old.index.items k (length old.order.items)

-- a row that was reached before is reached as it was
pub record IsKept (old new : ReachedRows) (k : ℕ) : Type 0 where
  pub reached : is_reached new k ≡ true
  pub by : parent_class new k ≡ parent_class old k
  pub bottlenecks : bottleneck new k ≡ bottleneck old k
  pub indices : index new k ≡ index old k

-- a row that is newly reached, through a class of which it holds some, whose bottleneck is all that it holds, up to some limit
pub record IsNewRow (old new : ReachedRows) (g most : ℕ) (shares : List Share) (k : ℕ) : Type 0 where
  pub by : parent_class new k ≡ g
  pub some_bottleneck : 0 < bottleneck new k
  pub bottlenecks : bottleneck new k ≡ min most (share_of k shares)
  pub later : length old.order.items ≤ index new k

-- the holders of some of these shares are reached
pub record IsGrown (old new : ReachedRows) (g most : ℕ) (done shares : List Share) : Type 0 where
  pub kept : (k : ℕ) → is_reached old k ≡ true → IsKept old new k
  pub fresh : (k : ℕ) → is_reached old k ≡ false → is_reached new k ≡ true → IsNewRow old new g most shares k
  pub longer : length old.order.items ≤ length new.order.items
  pub held : (k : ℕ) → 0 < share_of k done → is_reached new k ≡ true

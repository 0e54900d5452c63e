-- How many CPUs of each class each row holds.
use Rattle.std.specs.Prelude.{◌≡◌, ℕ, ◌+◌, ◌==◌, ◌<◌, cond, Some, List, map, length, take, slice_get}
use Rattle.transport.specs.Numbers.{IsIn, IsEachOnce}
use Rattle.twins.specs.Holdings.{share_of}
use Rattle.twins.specs.declared.holders.Share.{Share}

-- how many of these CPUs are row k's
abbrev pub amount_of : ℕ → Share → ℕ
amount_of k s = cond (s.row == k) s.amount 0

-- each share is a row's
abbrev pub AllBelow : ℕ → List Share → Type 0
AllBelow rows shares = (i : ℕ) (s : Share) → slice_get shares i ≡ Some s → s.row < rows

-- whose the shares are
abbrev pub holders_of : List Share → List ℕ
holders_of shares = map (λ s. s.row) shares

-- none of the shares is the row's
abbrev pub HasNoShare : ℕ → List Share → Type 0
HasNoShare k shares = IsIn (holders_of shares) k → ⊥

-- a row has more of a class, or less, and no other row has; no row comes to stand in two shares
pub record IsShareGiven (old new : List Share) (k amount : ℕ) : Type 0 where
  pub own : share_of k new ≡ share_of k old + amount
  pub others : (j : ℕ) → (j ≡ k → ⊥) → share_of j new ≡ share_of j old
  pub rows : (n : ℕ) → k < n → AllBelow n old → AllBelow n new
  pub once : IsEachOnce (holders_of old) → IsEachOnce (holders_of new)
  pub none : (j : ℕ) → (j ≡ k → ⊥) → HasNoShare j old → HasNoShare j new

pub record IsShareTaken (old new : List Share) (k amount : ℕ) : Type 0 where
  pub own : share_of k new + amount ≡ share_of k old
  pub others : (j : ℕ) → (j ≡ k → ⊥) → share_of j new ≡ share_of j old
  pub rows : (n : ℕ) → k < n → AllBelow n old → AllBelow n new
  pub holders : holders_of new ≡ holders_of old

-- the shares up to some place were gone through, and so much is left to take
pub record IsTaking (old xs : List Share) (k amount left upto : ℕ) : Type 0 where
  pub own : share_of k xs + amount ≡ share_of k old + left
  pub others : (j : ℕ) → (j ≡ k → ⊥) → share_of j xs ≡ share_of j old
  pub rows : (n : ℕ) → k < n → AllBelow n old → AllBelow n xs
  pub holders : holders_of xs ≡ holders_of old
  pub done : 0 < left → share_of k (take upto xs) ≡ 0
  pub long : length xs ≡ length old

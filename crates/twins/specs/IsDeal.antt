-- The CPUs of classes, dealt to rows.
use Rattle.std.specs.Prelude.{◌≡◌, ℕ, ◌+◌, ◌<◌, ◌≤◌, true, false, ◌||◌, Option, MatchOption, List, All, AllPairs, length, slice_index_or}
use Rattle.std.specs.FinSet as set
use Rattle.cpu_set.specs.Ids.{Ids, IsDisjoint, NoneFrom, IsFirstFrom}
use Rattle.cpu_set.specs.Members.{InRange}
use Rattle.certificate.specs.RowView.{RowView}
use Rattle.certificate.specs.IsDealt.{Holds, IsDealt}
use Rattle.certificate.specs.PlanFault.{is_held}
use Rattle.twins.specs.IsGrouping.{class_at, IsGrouping}
use Rattle.twins.specs.Holdings.{cell, share_of}
use Rattle.twins.specs.declared.holders.Share.{Share}

-- each row has as many CPUs of each class as it holds and no others, and no CPU is in two rows. If a row has the higher of
-- two CPUs of a class, it or an earlier row has the lower one.
pub record IsDeal (classes : List Ids) (holdings : List (List Share)) (sets : List Ids) : Type 0 where
  pub in_range : All InRange sets
  pub counts : (k g : ℕ) → k < length sets → set.len (set.intersection (slice_index_or sets k set.empty) (class_at classes g)) ≡ cell holdings k g
  pub only : (k cpu : ℕ) → Holds sets k cpu → is_held classes cpu ≡ true
  pub apart : AllPairs IsDisjoint sets
  pub rising : (g a b k : ℕ) → a < b → Holds classes g a → Holds classes g b → Holds sets k b → (j : ℕ) × (j ≤ k) × Holds sets j a

-- CPUs of classes of twins are dealt as twins ought to be
abbrev pub DealOfTwinsIsDealt : Type 0
DealOfTwinsIsDealt =
    (rows : List RowView) (classes : List Ids) (holdings : List (List Share)) (sets : List Ids)
    → IsGrouping rows classes → IsDeal classes holdings sets → IsDealt rows sets

-- a number of CPUs are taken out of a set, the lowest first
pub record IsTaken (old new taken : Ids) (count : ℕ) : Type 0 where
  pub both : (cpu : ℕ) → set.contains old cpu ≡ (set.contains taken cpu || set.contains new cpu)
  pub once : (cpu : ℕ) → set.contains taken cpu ≡ true → set.contains new cpu ≡ false
  pub below : (a b : ℕ) → set.contains taken a ≡ true → set.contains new b ≡ true → a < b
  pub as_many : set.len taken ≡ count
  pub left : set.len new + count ≡ set.len old

-- they are moved into another set
abbrev pub IsMoved : Ids → Ids → Ids → Ids → ℕ → Type 0
IsMoved old new own_old own_new count = (taken : Ids) × IsTaken old new taken count × (own_new ≡ set.union own_old taken)

-- the first number of a set, or that it has none
abbrev pub IsFirst : Ids → Option ℕ → Type 0
IsFirst s next = MatchOption next (NoneFrom s 0) (λ n. IsFirstFrom s 0 n)

-- the CPUs of one class are dealt to the holders of shares, in the rows' order, and nothing else changes
pub record IsClassDeal (class : Ids) (shares : List Share) (old new : List Ids) : Type 0 where
  pub long : length new ≡ length old
  pub others : (k cpu : ℕ) → set.contains class cpu ≡ false → set.contains (slice_index_or new k set.empty) cpu ≡ set.contains (slice_index_or old k set.empty) cpu
  pub counts : (k : ℕ) → k < length new → set.len (set.intersection (slice_index_or new k set.empty) class) ≡ share_of k shares
  pub once : (j k cpu : ℕ) → set.contains class cpu ≡ true → Holds new j cpu → Holds new k cpu → j ≡ k
  pub rising : (a b k : ℕ) → a < b → set.contains class a ≡ true → set.contains class b ≡ true → Holds new k b → (j : ℕ) × (j ≤ k) × Holds new j a

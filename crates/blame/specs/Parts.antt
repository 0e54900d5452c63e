-- A problem of some of the rows, and what it comes to.
use Rattle.std.specs.Prelude.{◌≡◌, ◌⊎◌, ℕ, ◌<◌, ◌==◌, true, cond, List, All, Contains, length, slice_index_or}
use Rattle.std.specs.FinSet as set
use Rattle.cpu_set.specs.Ids.{Ids}
use Rattle.cpu_set.specs.Members.{IsCpu, InRange}
use Rattle.cpu_set.specs.declared.TheConstants.{CPU_LIMIT}
use Rattle.certificate.specs.RowView.{RowView}
use Rattle.certificate.specs.IsShortage.{IsShortage}
use Rattle.hall.specs.Asking.{demand_at, may_have}
use Rattle.hall.specs.Needed.{others}
use Rattle.blame.specs.Marking.{owner, IsOwned}
use Rattle.blame.specs.declared.part.PartAnswer.{PartAnswer}
use Rattle.blame.specs.declared.part.PartAnswer.TheVariants as part
use Rattle.blame.specs.declared.lowering.Lowered.{Lowered}
use Rattle.blame.specs.declared.lowering.Lowered.TheVariants as lowered

-- the row's number at a place
abbrev pub number_at : List ℕ → ℕ → ℕ
number_at numbers i = slice_index_or numbers i 0

-- the set at a place
abbrev pub set_at : List Ids → ℕ → Ids
set_at sets i = slice_index_or sets i set.empty

-- what row k asks for, where the root asks for so many CPUs
abbrev pub asked_at : List RowView → ℕ → ℕ → ℕ → ℕ
asked_at rows root demand k = cond (k == root) demand (demand_at rows k)

-- rows of these numbers, one after another: each asks for as many CPUs, but for the root, and may have the same
pub record IsPart (rows : List RowView) (numbers : List ℕ) (root demand : ℕ) (chosen : List RowView) : Type 0 where
  pub long : length chosen ≡ length numbers
  pub asks : (i : ℕ) → i < length numbers → demand_at chosen i ≡ asked_at rows root demand (number_at numbers i)
  pub may : (i c : ℕ) → i < length numbers → may_have chosen i c ≡ may_have rows (number_at numbers i) c

-- a set for each of the rows of these numbers, of as many CPUs as it asks for, each of which it may have; no CPU is in two
pub record AreSetsOf (rows : List RowView) (numbers : List ℕ) (root demand : ℕ) (sets : List Ids) : Type 0 where
  pub long : length sets ≡ length numbers
  pub in_range : (i : ℕ) → i < length sets → InRange (set_at sets i)
  pub size : (i : ℕ) → i < length sets → set.len (set_at sets i) ≡ asked_at rows root demand (number_at numbers i)
  pub allowed : (i c : ℕ) → i < length sets → set.contains (set_at sets i) c ≡ true → may_have rows (number_at numbers i) c ≡ true
  pub apart :
      (i j c : ℕ) → i < length sets → j < length sets → set.contains (set_at sets i) c ≡ true → set.contains (set_at sets j) c ≡ true
      → i ≡ j

-- some of the rows of these numbers are a shortage
pub record IsShortageOf (rows : List RowView) (numbers members : List ℕ) : Type 0 where
  pub shortage : IsShortage rows members
  pub within : All (Contains numbers) members

-- what the rows of these numbers come to, where the root asks for so many CPUs
abbrev pub IsPartAnswer : List RowView → List ℕ → ℕ → ℕ → PartAnswer → Type 0
IsPartAnswer rows numbers root demand (part.Plan sets) = AreSetsOf rows numbers root demand sets.items
IsPartAnswer rows numbers root demand (part.Short members) = IsShortageOf rows numbers members.items

-- by the sets of rows of these numbers, who holds which CPU; a number above theirs where none does
pub record AreOwners (numbers : List ℕ) (sets : List Ids) (nobody : ℕ) (own : List ℕ) : Type 0 where
  pub held : (i c : ℕ) → i < length sets → IsCpu c → set.contains (set_at sets i) c ≡ true → owner own c ≡ number_at numbers i
  pub holds :
      (c : ℕ) → IsCpu c
      → (owner own c ≡ nobody) ⊎ ((i : ℕ) × (i < length sets) × (owner own c ≡ number_at numbers i) × (set.contains (set_at sets i) c ≡ true))

-- who asks for CPUs, where the root asks for so many
abbrev pub askers : List ℕ → ℕ → ℕ → List ℕ
askers members root demand = cond (demand == 0) (others members root) members

-- what the members of a shortage come to, where one of them asks for fewer CPUs
abbrev pub IsLowered : List RowView → List ℕ → Lowered → Type 0
IsLowered rows members (lowered.Plan part) =
    IsOwned rows members part.own.items part.root part.lacking × (length part.own.items ≡ CPU_LIMIT)
IsLowered rows members (lowered.Short fewer) = IsShortage rows fewer.items

-- Members of a shortage that can't be left out.
use Rattle.std.specs.Prelude.{◌≡◌, ℕ, ◌+◌, ◌<◌, ◌≤◌, ◌==◌, Bool, true, not, List, All, Contains, filter, length}
use Rattle.std.specs.List.Sorted.{IsStrictlyIncreasing}
use Rattle.std.specs.FinSet as set
use Rattle.cpu_set.specs.Ids.{Ids}
use Rattle.cpu_set.specs.Members.{IsCpu, InRange}
use Rattle.cpu_set.specs.Those.{those}
use Rattle.cpu_set.specs.declared.TheConstants.{CPU_LIMIT}
use Rattle.certificate.specs.RowView.{RowView}
use Rattle.certificate.specs.IsShortage.{chosen}
use Rattle.hall.specs.Asking.{demand_at, may_have}
use Rattle.hall.specs.HallsTheorem.{HasPlan}

-- the members but for one
abbrev pub others : List ℕ → ℕ → List ℕ
others members m = filter (λ k. not (k == m)) members

-- a member can't be left out: the others have a plan
abbrev pub IsNeeded : List RowView → List ℕ → ℕ → Type 0
IsNeeded rows members m = HasPlan (chosen rows (others members m))

-- no member can be left out: the shortage is irreducible
abbrev pub AreNeeded : List RowView → List ℕ → Type 0
AreNeeded rows members = All (IsNeeded rows members) members

-- how many CPUs row k holds, where `own c` is who holds CPU c
abbrev pub held_by : (ℕ → ℕ) → ℕ → ℕ
held_by own k = set.len (those (λ c. own c == k) CPU_LIMIT)

-- each member holds as many CPUs as it asks for, but for one, the root, which lacks some; none holds what it may not have
pub record IsPartPlan (rows : List RowView) (members : List ℕ) (own : ℕ → ℕ) (root lacking : ℕ) : Type 0 where
  pub allowed : (c : ℕ) → IsCpu c → own c < length rows → may_have rows (own c) c ≡ true
  pub there : Contains members root
  pub met : (k : ℕ) → Contains members k → (k ≡ root → ⊥) → held_by own k ≡ demand_at rows k
  pub lacks : held_by own root + lacking ≡ demand_at rows root

-- some of the members are known to be needed, the root among them
pub record AreKnown (rows : List RowView) (members : List ℕ) (root : ℕ) (known : ℕ → Bool) : Type 0 where
  pub root_known : known root ≡ true
  pub there : (k : ℕ) → known k ≡ true → Contains members k
  pub needed : (k : ℕ) → known k ≡ true → IsNeeded rows members k

-- a row that is known may have the CPU
abbrev pub IsOpenToKnown : List RowView → (ℕ → Bool) → ℕ → Type 0
IsOpenToKnown rows known c = (k : ℕ) × (known k ≡ true) × (may_have rows k c ≡ true)

-- a row holds so many CPUs at least that known rows may have
pub record HoldsOfKnown (rows : List RowView) (known : ℕ → Bool) (own : ℕ → ℕ) (k lacking : ℕ) : Type 0 where
  pub cpus : Ids
  pub in_range : InRange cpus
  pub its : (c : ℕ) → set.contains cpus c ≡ true → (own c ≡ k) × IsOpenToKnown rows known c
  pub enough : lacking ≤ set.len cpus

-- the root is needed, since the others have what they ask for
abbrev pub RootIsNeeded : Type 0
RootIsNeeded =
    (rows : List RowView) (members : List ℕ) (own : ℕ → ℕ) (root lacking : ℕ)
    → IsStrictlyIncreasing members → All (λ j. j < length rows) members → IsPartPlan rows members own root lacking → IsNeeded rows members root

-- who holds as many CPUs as the root lacks, of those that rows may have which are known to be needed, is needed too
abbrev pub HoldersAreNeeded : Type 0
HoldersAreNeeded =
    (rows : List RowView) (members : List ℕ) (own : ℕ → ℕ) (root lacking : ℕ) (known : ℕ → Bool) (k : ℕ)
    → IsStrictlyIncreasing members → All (λ j. j < length rows) members → IsPartPlan rows members own root lacking
    → AreKnown rows members root known → HoldsOfKnown rows known own k lacking → IsNeeded rows members k

-- what has a plan has one without some of its rows
abbrev pub FewerHavePlans : Type 0
FewerHavePlans =
    (rows : List RowView) (many few : List ℕ) → IsStrictlyIncreasing many → IsStrictlyIncreasing few → All (λ j. j < length rows) many
    → All (Contains many) few → HasPlan (chosen rows many) → HasPlan (chosen rows few)

-- What holds of each demand on its machine.
use Rattle.std.specs.Prelude.{◌≡◌, ◌≢◌, ℕ, ◌*◌, ◌<◌, ◌≤◌, true}
use Rattle.std.specs.FinSet as set
use Rattle.cpu_set.specs.Ids.{Ids, IsDisjoint}
use Rattle.cpu_set.specs.declared.TheConstants.{CPU_LIMIT}
use Rattle.machine.specs.Cores.{IsWhole}
use Rattle.machine.specs.Layout.{Layout}
use Rattle.machine.specs.Present.{IsPresent}
use Rattle.machine.specs.Weight.{weight, AreHomes}
use Rattle.demand.specs.declared.demand.Kind.{Kind}
use Rattle.demand.specs.declared.demand.Kind.TheVariants.{Pinned, Shared}
use Rattle.demand.specs.declared.demand.Demand.{Demand}

-- a pinned container asks for one CPU or more, and is allowed one; a shared one is allowed none
abbrev pub FitsKind : Kind → Ids → Type 0
FitsKind (Pinned count) allowed = (1 ≤ count) × (count ≤ CPU_LIMIT) × (allowed ≢ set.empty)
FitsKind Shared allowed = allowed ≡ set.empty

-- it asks for the CPUs of whole cores
abbrev pub AsksForCores : ℕ → Kind → Type 0
AsksForCores threads (Pinned count) = (cores : ℕ) × (count ≡ cores * threads)
AsksForCores threads Shared = Unit {0}

-- homes that exist; allowed CPUs that are present, not reserved and in reach of a home; all CPUs of a core are allowed, or
-- none
pub record FitsMachine (m : Layout) (d : Demand) : Type 0 where
  pub kind : FitsKind d.kind d.allowed
  pub cores : AsksForCores m.threads d.kind
  pub homes : AreHomes m d.homes
  pub unreserved : IsDisjoint d.allowed m.reserved
  pub present : (c : ℕ) → set.contains d.allowed c ≡ true → IsPresent m c
  pub in_reach : (c : ℕ) → set.contains d.allowed c ≡ true → weight m d.homes c < 255
  pub whole : IsWhole m d.allowed

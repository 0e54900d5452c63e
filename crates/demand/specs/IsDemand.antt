-- What a container with a CPU section asks for on a machine.
use Rattle.std.specs.Prelude.{◌≡◌, ℕ, Option, Some, None, true, false, if◌then◌else◌}
use Rattle.std.specs.FinSet as set
use Rattle.cpu_set.specs.Ids.{Ids}
use Rattle.config_json.specs.SectionOf.{Section}
use Rattle.machine.specs.Layout.{Layout}
use Rattle.demand.specs.declared.demand.Kind.{Kind}
use Rattle.demand.specs.declared.demand.Kind.TheVariants.{Pinned, Shared}
use Rattle.demand.specs.declared.demand.Demand.{Demand}
use Rattle.demand.specs.AsksFor.{AsksFor}
use Rattle.demand.specs.Quota.{limit_of, period_of}
use Rattle.demand.specs.Homes.{homes_of}
use Rattle.demand.specs.Allowed.{allowed_of}
use Rattle.demand.specs.DemandFaultOf.{is_pinned}

-- as many CPUs as the limit asks for; with no limit as many as are allowed, or none of its own where no CPU is named
abbrev pub IsKind : ℕ → Option ℕ → ℕ → Ids → Section → Kind → Type 0
IsKind threads (Some limit) period allowed s (Pinned count) = AsksFor limit period threads count
IsKind threads (Some limit) period allowed s Shared = ⊥
IsKind threads None period allowed s (Pinned count) = (is_pinned s ≡ true) × (count ≡ set.len allowed)
IsKind threads None period allowed s Shared = is_pinned s ≡ false

-- the homes, the allowed CPUs and the count; a shared container has no allowed CPUs
pub record IsDemand (m : Layout) (s : Section) (d : Demand) : Type 0 where
  pub homes : d.homes ≡ homes_of m s.mems
  pub allowed : d.allowed ≡ (if is_pinned s then allowed_of m s else set.empty)
  pub kind : IsKind m.threads (limit_of s.quota) (period_of s.period) (allowed_of m s) s d.kind

-- The last check, and what it leaves: a pinned container, or a shared one.
use Rattle.std.proofs.Common.{◌≡◌, ℕ, zero, suc, ◌-◌, ◌*◌, ◌<◌, ◌≤◌, true, false, Option, Some, None, refl, sym, ap, ◌∙◌, arith}
use Rattle.std.specs.Prelude.{is_some, unwrap_or}
use Rattle.std.proofs.lemmas.Bool.{false≢true, both_ways, or_parts}
use Rattle.std.specs.FinSet as set
use Rattle.cpu_set.specs.Ids.{Ids}
use Rattle.cpu_set.specs.Members.{InRange}
use Rattle.cpu_set.specs.PointwiseLaws.{contains-empty}
use Rattle.cpu_set.specs.declared.TheConstants.{CPU_LIMIT}
use Rattle.config_json.specs.SectionOf.{Section}
use Rattle.machine.specs.Cores.{AreCores}
use Rattle.machine.specs.Layout.{Layout}
use Rattle.machine.specs.Present.{present}
use Rattle.machine.specs.Weight.{AreHomes}
use Rattle.demand.specs.declared.demand.Kind.TheVariants.{Pinned, Shared}
use Rattle.demand.specs.declared.fault.DemandFault.TheVariants.{NothingAllowed}
use Rattle.demand.specs.AsksFor.{AsksFor}
use Rattle.demand.specs.Quota.{limit_of, period_of, IsCount}
use Rattle.demand.specs.Homes.{homes_of}
use Rattle.demand.specs.Allowed.{allowed_by, allowed_of}
use Rattle.demand.specs.DemandFaultOf.{is_pinned, allowed_fault}
use Rattle.demand.specs.IsDemand.{IsKind, IsDemand}
use Rattle.demand.specs.FitsMachine.{FitsKind, AsksForCores, FitsMachine}
use Rattle.demand.proofs.FreeCpus.{IsGiven, allowed_is_given, allowed_is_whole, allowed_in_cores}
use Rattle.machine.specs.CoreCountLaws.{none_has}
use Rattle.cpu_set.specs.SetLaws.{is_empty-empty, is_empty-some}

-- a shared container has no fault left
pub shared_has_no_fault : (m : Layout) (s : Section) → is_pinned s ≡ false → allowed_fault m s ≡ None
unfolding allowed_fault
shared_has_no_fault m s shared = rw shared refl

-- a pinned one has where nothing is allowed
pub nothing_is_a_fault : (m : Layout) (s : Section) → is_pinned s ≡ true → allowed_of m s ≡ set.empty → allowed_fault m s ≡ Some NothingAllowed
unfolding allowed_fault
nothing_is_a_fault m s pinned none = rw (pinned, is_empty-empty (allowed_of m s) none) refl

-- and has not where something is
pub something_is_none : (m : Layout) (s : Section) → is_pinned s ≡ true → (allowed_of m s ≡ set.empty → ⊥) → allowed_fault m s ≡ None
unfolding allowed_fault
something_is_none m s pinned some = rw (pinned, is_empty-some (allowed_of m s) some) refl

shared_kind : (threads : ℕ) (limit : Option ℕ) (period : ℕ) (allowed : Ids) (s : Section) → is_some limit ≡ false → is_pinned s ≡ false → IsKind threads limit period allowed s Shared
shared_kind threads None period allowed s none shared = shared
shared_kind threads (Some limit) period allowed s none shared = absurd (false≢true (sym none))

-- a shared container's demand
pub shared_demand :
    (m : Layout) (s : Section) (allowed homes : Ids) → is_pinned s ≡ false → allowed ≡ set.empty → homes ≡ homes_of m s.mems
    → IsDemand m s (record { kind = Shared; allowed = allowed; homes = homes })
shared_demand m s allowed homes shared none are_homes = record {
  homes = are_homes;
  allowed = rw shared none;
  kind = shared_kind m.threads (limit_of s.quota) (period_of s.period) (allowed_of m s) s (or_parts _ _ shared).0 shared;
}

pinned_kind :
    (threads : ℕ) (limit : Option ℕ) (period : ℕ) (allowed : Ids) (s : Section) (count : Option ℕ)
    → IsCount threads limit period count → is_pinned s ≡ true → IsKind threads limit period allowed s (Pinned (unwrap_or count (set.len allowed)))
pinned_kind threads None period allowed s None is pinned = (pinned, refl)
pinned_kind threads None period allowed s (Some n) is pinned = absurd is
pinned_kind threads (Some limit) period allowed s None is pinned = absurd is
pinned_kind threads (Some limit) period allowed s (Some n) is pinned = is.0

-- a pinned container's demand
pub pinned_demand :
    (m : Layout) (s : Section) (allowed homes : Ids) (count : Option ℕ) (asked : ℕ)
    → IsCount m.threads (limit_of s.quota) (period_of s.period) count → is_pinned s ≡ true
    → allowed ≡ allowed_of m s → homes ≡ homes_of m s.mems → asked ≡ unwrap_or count (set.len allowed)
    → IsDemand m s (record { kind = Pinned asked; allowed = allowed; homes = homes })
pinned_demand m s allowed homes count asked is pinned are_allowed are_homes asks = record {
  homes = are_homes;
  allowed = rw pinned are_allowed;
  kind = rw (asks, are_allowed) (pinned_kind m.threads (limit_of s.quota) (period_of s.period) (allowed_of m s) s count is pinned);
}

asks_for_one : (quota period threads count : ℕ) → AsksFor quota period threads count → 1 ≤ count
asks_for_one quota period threads zero asks = absurd (let a = asks.enough in let b : (zero - threads) * period < quota = asks.no_more in let none : zero - threads ≡ zero = omega arith in omega (arith, a, rw none at b))
asks_for_one quota period threads (suc count) asks = omega arith

has_one : (s : Ids) (n : ℕ) → set.len s ≡ n → (s ≡ set.empty → ⊥) → 1 ≤ n
has_one s zero is some = absurd (some (set.empty_of_len s is))
has_one s (suc n) is some = omega arith

pinned_count :
    (threads : ℕ) (limit : Option ℕ) (period : ℕ) (allowed : Ids) (count : Option ℕ) → IsCount threads limit period count
    → set.len allowed ≤ CPU_LIMIT → (allowed ≡ set.empty → ⊥) → FitsKind (Pinned (unwrap_or count (set.len allowed))) allowed
pinned_count threads limit period allowed None is few some = (has_one allowed (set.len allowed) refl some, few, some)
pinned_count threads None period allowed (Some n) is few some = absurd is
pinned_count threads (Some limit) period allowed (Some n) is few some = (asks_for_one limit period threads n is.0, is.1, some)

-- the count is that of whole cores, whether the quota asks for it or all that is allowed
pinned_cores :
    (m : Layout) (limit : Option ℕ) (period : ℕ) (allowed : Ids) (count : Option ℕ) → IsCount m.threads limit period count
    → ((cores : ℕ) × (set.len allowed ≡ cores * m.threads)) → AsksForCores m.threads (Pinned (unwrap_or count (set.len allowed)))
pinned_cores m limit period allowed None is all = all
pinned_cores m None period allowed (Some n) is all = absurd is
pinned_cores m (Some limit) period allowed (Some n) is all = is.0.whole

pub count_at : (a b : ℕ) (limit : Option ℕ) (period : ℕ) (count : Option ℕ) → a ≡ b → IsCount a limit period count → IsCount b limit period count
count_at a b limit period count same is = rw (sym same) is

-- a pinned container's demand fits the machine
pub pinned_fits :
    (m : Layout) (limit : Option ℕ) (period : ℕ) (cpus allowed homes : Ids) (count : Option ℕ) (asked : ℕ)
    → AreCores m → InRange (present m) → IsCount m.threads limit period count → allowed ≡ allowed_by m cpus homes → AreHomes m homes
    → set.len allowed ≤ CPU_LIMIT → (allowed ≡ set.empty → ⊥) → asked ≡ unwrap_or count (set.len allowed)
    → FitsMachine m (record { kind = Pinned asked; allowed = allowed; homes = homes })
pinned_fits m limit period cpus allowed homes count asked are in_range is are_allowed are_homes few some asks =
    let each : (c : ℕ) → set.contains allowed c ≡ true → IsGiven m homes c =
    λ c has. allowed_is_given m cpus homes c (ap (λ t. set.contains t c) (sym are_allowed) ∙ has) in
    record {
      kind = rw asks (pinned_count m.threads limit period allowed count is few some);
      cores = rw asks (pinned_cores m limit period allowed count is (rw are_allowed (allowed_in_cores m cpus homes are in_range)));
      homes = are_homes;
      unreserved = λ c has reserved. both_ways _ (each c has).unreserved reserved;
      present = λ c has. (each c has).present;
      in_reach = λ c has. (each c has).in_reach;
      whole = rw are_allowed (allowed_is_whole m cpus homes);
    }

-- and so does a shared one's
pub shared_fits :
    (m : Layout) (allowed homes : Ids) → allowed ≡ set.empty → AreHomes m homes
    → FitsMachine m (record { kind = Shared; allowed = allowed; homes = homes })
shared_fits m allowed homes none are_homes = record {
  kind = none;
  cores = tt;
  homes = are_homes;
  unreserved = λ c has reserved. none_has allowed c none has;
  present = λ c has. absurd (none_has allowed c none has);
  in_reach = λ c has. absurd (none_has allowed c none has);
  whole = λ a b _ _ _. ap (λ s. set.contains s a) none ∙ contains-empty a ∙ sym (contains-empty b) ∙ ap (λ s. set.contains s b) (sym none);
}

pub ruleset last_check = (shared_has_no_fault, nothing_is_a_fault, something_is_none)

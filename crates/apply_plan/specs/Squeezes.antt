-- When a direct hand-over squeezes a container onto the reserved CPUs.
use Rattle.std.specs.Prelude.{◌≡◌, true, false, ◌||◌, is_some}
use Rattle.std.specs.List.{AllByRecursion}
use Rattle.cpu_set.specs.Ids.{Ids, is_same}
use Rattle.proctable.specs.Processes.{is_alive}
use Rattle.kernel_model.specs.KernelState.{KernelState}
use Rattle.apply_plan.specs.declared.entry.Entry.{Entry}
use Rattle.apply_plan.specs.DueWrite.{held}
use Rattle.apply_plan.specs.DirectWords.{has_own, lets_go}
use Rattle.apply_plan.specs.Rings.{next, in_ring}
use Rattle.apply_plan.specs.Directed.{Directed, allowed_of, Least}
use Rattle.apply_plan.specs.DirectWrite.{goes, must_yield, has_room, has_place}

-- a live pinned container that held a CPU outside the reserved ones holds none now, and not because that is its target
pub record IsSqueezed (reserved : Ids) (old new : KernelState) (e : Entry) : Type 0 where
  pub live : is_alive old.table e.pid ≡ true
  pub pinned : e.pinned ≡ true
  pub had : has_own reserved (held old e) ≡ true
  pub has : has_own reserved (held new e) ≡ false
  pub way : is_same (held new e) e.target ≡ false

-- it is pinned, and has no online CPU on its way, and no place
pub record IsFull (d : Directed) (least : Least) (k : KernelState) (e : Entry) : Type 0 where
  pub pinned : e.pinned ≡ true
  pub no_room : has_room k d.targets.reserved d.targets.entries e ≡ false
  pub no_place : has_place k d.targets.reserved d.targets.entries (allowed_of d) least e ≡ false

-- the container stands in a ring in which nobody can give way: no target is free for one that is pinned or lets go, each that
-- lets go waits for another, and whoever stands in a ring and is asked is full, the container too
pub record IsStuck (d : Directed) (least : Least) (k : KernelState) (e : Entry) : Type 0 where
  pub none_goes : AllByRecursion (λ a. (a.pinned || lets_go k d.targets.reserved a) ≡ true → goes k d.targets.reserved d.targets.entries a ≡ false) d.targets.entries
  pub each_waits : AllByRecursion (λ a. lets_go k d.targets.reserved a ≡ true → is_some (next k d.targets.reserved d.targets.entries a) ≡ true) d.targets.entries
  pub all_full : AllByRecursion (λ a. must_yield k d.targets.reserved d.targets.entries a ≡ true → IsFull d least k a) d.targets.entries
  pub ring : in_ring k d.targets.reserved d.targets.entries e ≡ true
  pub full : IsFull d least k e

-- whoever is squeezed by what happened from one state to the next was stuck
abbrev pub SqueezesOnlyStuck : Directed → Least → KernelState → KernelState → Type 0
SqueezesOnlyStuck d least old new = AllByRecursion (λ e. IsSqueezed d.targets.reserved old new e → IsStuck d least old e) d.targets.entries

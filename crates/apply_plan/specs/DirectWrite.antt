-- The write that is due in a direct hand-over, by one state of the kernel.
use Rattle.std.specs.Prelude.{◌≡◌, ℕ, ◌+◌, ◌-◌, ◌≤◌, Bool, true, not, ◌&&◌, ◌||◌, cond, List, [], ◌∷◌, find, Option, Some, None, is_some, option_map, Result, Ok, Err, min, max}
use Rattle.std.specs.FinSet as set
use Rattle.cpu_set.specs.Ids.{Ids, is_empty}
use Rattle.kernel_model.specs.declared.fault.KernelFault.{KernelFault}
use Rattle.kernel_model.specs.declared.fault.KernelFault.TheVariants.{Failed}
use Rattle.kernel_model.specs.KernelState.{KernelState}
use Rattle.apply_plan.specs.declared.entry.Entry.{Entry}
use Rattle.apply_plan.specs.declared.scan.Write.{Write}
use Rattle.apply_plan.specs.declared.handover.Progress.{Progress}
use Rattle.apply_plan.specs.DueWrite.{held, written, missed, progress_of}
use Rattle.apply_plan.specs.DirectWords.{has_own, may_take, lets_go, blocks, spare, places, way}
use Rattle.apply_plan.specs.Rings.{in_ring, rings_stand}
use Rattle.apply_plan.specs.MayWrite.{write_of, left_directly}
use Rattle.apply_plan.specs.Directed.{Directed, allowed_of, Least}

module _ (k : KernelState) (reserved : Ids) (entries : List Entry) where
  -- one that only grows waits while others stand in a ring and its target has all spare CPUs, which may be somebody's places
  abbrev pub is_guarded : Entry → Bool
  is_guarded e = not (lets_go k reserved e) && (set.is_subset (spare k reserved entries) e.target && rings_stand k reserved entries)

  -- it takes its target at once
  abbrev pub goes : Entry → Bool
  goes e = may_take k reserved entries e && not (is_guarded e)

  -- a pinned one that has no CPU of its own yet
  abbrev pub is_new : Entry → Bool
  is_new e = e.pinned && (not (has_own reserved (held k e)) && goes e)

  -- one that lets go
  abbrev pub is_mover : Entry → Bool
  is_mover e = lets_go k reserved e && goes e

  -- a pinned one
  abbrev pub is_grower : Entry → Bool
  is_grower e = e.pinned && goes e

  -- others ask of it, and it stands in a ring
  abbrev pub must_yield : Entry → Bool
  must_yield e = blocks k reserved entries e && in_ring k reserved entries e

  -- a shared one that must yield
  abbrev pub shares : Entry → Bool
  shares e = not e.pinned && must_yield e

  -- it has an online CPU of its own on its way
  abbrev pub has_room : Entry → Bool
  has_room e = has_own reserved (set.intersection (way k reserved entries e) k.tree.online)

  -- what a shared one gets: its way, and the reserved CPUs where nothing of that is online
  abbrev pub shared_way : Entry → Ids
  shared_way e =
      cond (is_empty (set.intersection (way k reserved entries e) k.tree.online)) (set.union (way k reserved entries e) reserved) (way k reserved entries e)

  -- how many CPUs it lacks on its way of those that it holds now or that its target has, whichever are fewer
  abbrev pub lacks : Entry → ℕ
  lacks e = min (set.len (held k e)) (set.len e.target) - set.len (way k reserved entries e)

  module _ (allowed : Entry → Ids) where
    -- it has a place: one can be given of them, so where cores are given, the whole of a core
    abbrev pub has_place : Least → Entry → Bool
    has_place least e = not (is_empty (least (places k reserved entries (allowed e) e) 1))

    -- a pinned one that keeps CPUs of its own
    abbrev pub steps_aside : Least → Entry → Bool
    steps_aside least e = e.pinned && (must_yield e && (has_room e || has_place least e))

    -- what it gets: its way, and of its places as many as it lacks, one at least where it has none of its own else
    abbrev pub aside : Least → Entry → Ids
    aside least e =
        set.union (way k reserved entries e)
        (least (set.difference (places k reserved entries (allowed e) e) (way k reserved entries e)) (cond (has_room e) (lacks e) (max (lacks e) 1)))

  -- what one gets that is squeezed: its way, and the reserved CPUs as a temporary
  abbrev pub squeezed : Entry → Ids
  squeezed e = set.union (way k reserved entries e) reserved

-- the first write there is
abbrev pub first_due : List (Option Write) → Option Write
first_due [] = None
first_due (Some w ∷ later) = Some w
first_due (None ∷ later) = first_due later

-- the first entry that passes a test gets these CPUs
abbrev pub gets : (Entry → Bool) → (Entry → Ids) → List Entry → Option Write
gets test cpus entries = option_map (λ e. write_of e (cpus e)) (find test entries)

-- a free target is taken: of a new one, of one that lets go, of one that grows. Else those that let go wait in rings, and of those
-- that must yield a shared one does, a pinned one that keeps CPUs of its own, or the first by way of the reserved CPUs. Else
-- nobody lets go, and a shared one grows.
abbrev pub direct_write : KernelState → Ids → List Entry → (Entry → Ids) → Least → Option Write
direct_write k reserved entries allowed least =
    first_due (
    gets (is_new k reserved entries) (λ e. e.target) entries
    ∷ gets (is_mover k reserved entries) (λ e. e.target) entries
    ∷ gets (is_grower k reserved entries) (λ e. e.target) entries
    ∷ gets (shares k reserved entries) (shared_way k reserved entries) entries
    ∷ gets (steps_aside k reserved entries allowed least) (aside k reserved entries allowed least) entries
    ∷ gets (must_yield k reserved entries) (squeezed k reserved entries) entries
    ∷ gets (may_take k reserved entries) (λ e. e.target) entries
    ∷ []
    )

-- the write that is due in one state of the kernel, if one is
abbrev pub due_directly : Directed → Least → KernelState → Option Write
due_directly d least k = direct_write k d.targets.reserved d.targets.entries (allowed_of d) least

-- a step makes the write that is due and no other, and tells whether another is due after it; if that write fails it is
-- told and counted, and nothing else changes
abbrev pub StepsDirectly : Directed → Least → KernelState → Result Progress KernelFault → KernelState → Type 0
StepsDirectly d least old (Ok answer) new = (new ≡ written old (due_directly d least old)) × (answer ≡ progress_of (due_directly d least new))
StepsDirectly d least old (Err fault) new = (fault ≡ Failed) × (new ≡ missed (due_directly d least old) old) × (is_some (due_directly d least old) ≡ true)

-- if a write was due and succeeded, one less is left or fewer; if it failed, as many as before
abbrev pub LowersDirectly : Directed → Least → KernelState → Result Progress KernelFault → KernelState → Type 0
LowersDirectly d least old (Ok answer) new = left_directly d.targets new + cond (is_some (due_directly d least old)) 1 0 ≤ left_directly d.targets old
LowersDirectly d least old (Err fault) new = left_directly d.targets new ≡ left_directly d.targets old

-- how many writing calls a step makes: one if a write is due, whether it fails or not, and else none
abbrev pub made_directly : Directed → Least → KernelState → ℕ
made_directly d least k = cond (is_some (due_directly d least k)) 1 0

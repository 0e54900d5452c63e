-- The words of the direct order (make before break): who holds what another one waits for, in one state of the kernel.
use Rattle.std.specs.Prelude.{Bool, not, ◌&&◌, ◌||◌, cond, List, [], ◌∷◌, find, Option, is_none, is_some}
use Rattle.std.specs.FinSet as set
use Rattle.cpu_set.specs.Ids.{Ids}
use Rattle.cpuset_tree.specs.Groups.{same_group}
use Rattle.proctable.specs.Processes.{is_alive}
use Rattle.kernel_model.specs.KernelState.{KernelState}
use Rattle.apply_plan.specs.declared.entry.Entry.{Entry}
use Rattle.apply_plan.specs.DueWrite.{held, must_move}

-- of these CPUs some are not reserved
abbrev pub has_own : Ids → Ids → Bool
has_own reserved cpus = not (set.is_subset cpus reserved)

-- d is a rival of e: another live container, where one of the two is pinned
abbrev pub is_rival : KernelState → Entry → Entry → Bool
is_rival k e d = (e.pinned || d.pinned) && (not (same_group e.group d.group) && is_alive k.table d.pid)

-- d is a rival of e that holds some of these CPUs, outside the reserved ones
abbrev pub holds_some : KernelState → Ids → Entry → Ids → Entry → Bool
holds_some k reserved e cpus d = is_rival k e d && has_own reserved (set.intersection cpus (held k d))

-- the one that e waits for to get these CPUs: the first rival in order that holds some of those that e does not hold itself
abbrev pub blocker : KernelState → Ids → List Entry → Entry → Ids → Option Entry
blocker k reserved entries e cpus = find (holds_some k reserved e (set.difference cpus (held k e))) entries

-- e may get these CPUs at once: it waits for nobody
abbrev pub are_free : KernelState → Ids → List Entry → Entry → Ids → Bool
are_free k reserved entries e cpus = is_none (blocker k reserved entries e cpus)

-- a live container that does not hold its target, of which no rival holds any
abbrev pub may_take : KernelState → Ids → List Entry → Entry → Bool
may_take k reserved entries e = must_move k e && are_free k reserved entries e e.target

-- a live container that holds CPUs which are neither reserved nor in its target
abbrev pub lets_go : KernelState → Ids → Entry → Bool
lets_go k reserved e = is_alive k.table e.pid && has_own reserved (set.difference (held k e) e.target)

-- d, which is pinned and another one, asks of e: where e is pinned, while d lets go; where e is shared, while d must move
abbrev pub asks : KernelState → Ids → Entry → Entry → Bool
asks k reserved e d = d.pinned && (not (same_group e.group d.group) && cond e.pinned (lets_go k reserved d) (must_move k d))

-- e holds some of what d asks for, outside the reserved CPUs
abbrev pub holds_up : KernelState → Ids → Entry → Entry → Bool
holds_up k reserved e d = asks k reserved e d && has_own reserved (set.intersection (held k e) d.target)

-- a live container that holds some of what another one asks for
abbrev pub blocks : KernelState → Ids → List Entry → Entry → Bool
blocks k reserved entries e = is_alive k.table e.pid && is_some (find (holds_up k reserved e) entries)

-- the CPUs that those which pass a test have together, by what each has
abbrev pub all_of_those : (Entry → Bool) → (Entry → Ids) → List Entry → Ids
all_of_those test sets [] = set.empty
all_of_those test sets (d ∷ later) = set.union (cond (test d) (sets d) set.empty) (all_of_those test sets later)

-- what the rivals of e hold
abbrev pub taken : KernelState → List Entry → Entry → Ids
taken k entries e = all_of_those (is_rival k e) (held k) entries

-- what is asked of e
abbrev pub asked : KernelState → Ids → List Entry → Entry → Ids
asked k reserved entries e = all_of_those (asks k reserved e) (λ d. d.target) entries

-- the online CPUs outside the reserved ones that no live container holds
abbrev pub spare : KernelState → Ids → List Entry → Ids
spare k reserved entries = set.difference (set.difference k.tree.online reserved) (all_of_those (λ d. is_alive k.table d.pid) (held k) entries)

-- the places of e, where it may run on its way: those spare CPUs that it is allowed and that are not asked of it
abbrev pub places : KernelState → Ids → List Entry → Ids → Entry → Ids
places k reserved entries allowed e = set.difference (set.intersection allowed (spare k reserved entries)) (asked k reserved entries e)

-- what e has on its way: what is not asked of what it holds, and what no rival holds of its target. Reserved CPUs are not asked
-- for.
abbrev pub way : KernelState → Ids → List Entry → Entry → Ids
way k reserved entries e =
    set.union (set.difference (held k e) (set.difference (asked k reserved entries e) reserved)) (set.difference e.target (taken k entries e))

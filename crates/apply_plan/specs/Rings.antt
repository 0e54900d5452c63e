-- Containers that wait for each other in a ring, as parallel moves do that need a temporary.
use Rattle.std.specs.Prelude.{ℕ, zero, suc, Bool, false, ◌||◌, List, length, find, Option, Some, None, is_some}
use Rattle.cpu_set.specs.Ids.{Ids}
use Rattle.cpuset_tree.specs.Groups.{same_group}
use Rattle.kernel_model.specs.KernelState.{KernelState}
use Rattle.apply_plan.specs.declared.entry.Entry.{Entry}
use Rattle.apply_plan.specs.DirectWords.{blocker}

-- the one that e waits for to get its target
abbrev pub next : KernelState → Ids → List Entry → Entry → Option Entry
next k reserved entries e = blocker k reserved entries e e.target

-- from this one on, each waits for the next, and within so many of them one is e
abbrev pub leads_to : KernelState → Ids → List Entry → Entry → ℕ → Option Entry → Bool
leads_to k reserved entries e zero o = false
leads_to k reserved entries e (suc n) None = false
leads_to k reserved entries e (suc n) (Some d) = same_group e.group d.group || leads_to k reserved entries e n (next k reserved entries d)

-- e stands in a ring: it waits for one that waits for one, and so on, up to one that waits for e
abbrev pub in_ring : KernelState → Ids → List Entry → Entry → Bool
in_ring k reserved entries e = leads_to k reserved entries e (length entries) (next k reserved entries e)

-- some stand in a ring
abbrev pub rings_stand : KernelState → Ids → List Entry → Bool
rings_stand k reserved entries = is_some (find (in_ring k reserved entries) entries)

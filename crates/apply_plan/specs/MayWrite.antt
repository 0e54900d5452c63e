-- Which writes a direct hand-over may make, whatever chooses among them; and what each of them leaves.
use Rattle.std.specs.Prelude.{◌≡◌, ◌⊎◌, ℕ, ◌+◌, ◌*◌, ◌≤◌, length, Bool, true, false, cond, filter, List, find, Some}
use Rattle.std.specs.List.{AllByRecursion, sum_by}
use Rattle.std.specs.FinSet as set
use Rattle.cpu_set.specs.Ids.{Ids, is_empty}
use Rattle.cpuset_tree.specs.declared.Group.{Group}
use Rattle.cpuset_tree.specs.Groups.{same_group}
use Rattle.kernel_model.specs.KernelState.{KernelState}
use Rattle.apply_plan.specs.declared.entry.Entry.{Entry}
use Rattle.apply_plan.specs.declared.scan.Write.{Write}
use Rattle.apply_plan.specs.Holders.{IsSafe}
use Rattle.apply_plan.specs.Targets.{Targets, holders_of, IsHandover, ArePlaced}
use Rattle.apply_plan.specs.DueWrite.{held, must_move, written}
use Rattle.apply_plan.specs.DirectWords.{has_own, are_free, may_take, asks, blocks}

-- e has these CPUs on its way: it keeps what it holds of its target, and gets none but what it holds, its target, reserved CPUs
-- and those that it is allowed
pub record OnWay (reserved allowed : Ids) (k : KernelState) (e : Entry) (cpus : Ids) : Type 0 where
  pub keeps : (cpu : ℕ) → set.contains (held k e) cpu ≡ true → set.contains e.target cpu ≡ true → set.contains cpus cpu ≡ true
  pub within : (cpu : ℕ) → set.contains cpus cpu ≡ true
      → (set.contains (held k e) cpu ≡ true) ⊎ (set.contains e.target cpu ≡ true) ⊎ (set.contains reserved cpu ≡ true) ⊎ (set.contains allowed cpu ≡ true)

-- e, of which others ask, gives way: it gets some CPUs, anew none that a rival holds, and none that is asked of it
pub record GivesWay (h : Targets) (k : KernelState) (e : Entry) (cpus : Ids) : Type 0 where
  pub blocked : blocks k h.reserved h.entries e ≡ true
  pub some : is_empty cpus ≡ false
  pub free : are_free k h.reserved h.entries e cpus ≡ true
  pub yields : AllByRecursion (λ d. asks k h.reserved e d ≡ true → has_own h.reserved (set.intersection cpus d.target) ≡ false) h.entries

-- e takes its target, of which no rival holds any, or gives way
abbrev pub MayWrite : Targets → KernelState → Entry → Ids → Type 0
MayWrite h k e cpus = ((may_take k h.reserved h.entries e ≡ true) × (cpus ≡ e.target)) ⊎ GivesWay h k e cpus

-- the write by which an entry's group requests these CPUs
abbrev pub write_of : Entry → Ids → Write
write_of e cpus = record { group = e.group; cpus = cpus }

-- how many writes a container waits for at most: one for its target, and one where others ask of it
abbrev pub waits_for : KernelState → Ids → List Entry → Entry → ℕ
waits_for k reserved entries e = cond (must_move k e) 1 0 + cond (blocks k reserved entries e) 1 0

-- how many writes are left at most
abbrev pub left_directly : Targets → KernelState → ℕ
left_directly h k = sum_by (waits_for k h.reserved h.entries) h.entries

-- whichever of these writes is made, what was safe stays safe, and one write less is left, or fewer
abbrev pub EachLowers : Type 0
EachLowers =
    (h : Targets) (old : KernelState) (test : Entry → Bool) (e : Entry) (cpus : Ids) → IsHandover h → ArePlaced old h.entries → find test h.entries ≡ Some e
    → MayWrite h old e cpus
    → (IsSafe old h.reserved (holders_of h.entries) → IsSafe (written old (Some (write_of e cpus))) h.reserved (holders_of h.entries))
    × (left_directly h (written old (Some (write_of e cpus))) + 1 ≤ left_directly h old)

-- how many of the writes are of this group
abbrev pub times_written : Group → List Write → ℕ
times_written g writes = length (filter (λ w. same_group w.group g) writes)

-- whichever of these writes is made, its container waits for one less, or fewer, and no other one for more
abbrev pub EachWaitsForLess : Type 0
EachWaitsForLess =
    (h : Targets) (old : KernelState) (test : Entry → Bool) (e : Entry) (cpus : Ids) → IsHandover h → ArePlaced old h.entries → find test h.entries ≡ Some e
    → MayWrite h old e cpus
    → AllByRecursion (λ a. waits_for (written old (Some (write_of e cpus))) h.reserved h.entries a + cond (same_group e.group a.group) 1 0
    ≤ waits_for old h.reserved h.entries a) h.entries

-- at most two writes for each entry are left
abbrev pub FewLeft : Type 0
FewLeft = (h : Targets) (k : KernelState) → left_directly h k ≤ 2 * length h.entries

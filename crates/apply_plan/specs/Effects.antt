-- What the requested sets of containers are worth: the sets that they have in effect.
-- From: cgroup v2, `cpuset.cpus.effective`.
use Rattle.std.specs.Prelude.{◌≡◌, true, false, List}
use Rattle.std.specs.List.{AllByRecursion}
use Rattle.std.specs.FinSet as set
use Rattle.cpu_set.specs.Ids.{Ids, is_empty}
use Rattle.cpuset_tree.specs.declared.Group.{Group}
use Rattle.cpuset_tree.specs.TreeState.{GroupEntry}
use Rattle.cpuset_tree.specs.TreeLaws.{IsTwoBelowRoot}
use Rattle.cpuset_tree.specs.Groups.{requested_cpus}
use Rattle.cpuset_tree.specs.Effective.{effective_cpus}
use Rattle.proctable.specs.Processes.{is_alive}
use Rattle.kernel_model.specs.KernelState.{KernelState}
use Rattle.kernel_model.specs.WellFormed.{IsWellFormed}
use Rattle.apply_plan.specs.declared.entry.Entry.{Entry}
use Rattle.apply_plan.specs.Holders.{Holder, AreSafe, IsSafe}
use Rattle.apply_plan.specs.DueWrite.{HaveTargets}

-- the group's parent is a child of the root that requests no CPUs
pub record HasFreeParent (k : KernelState) (g : Group) : Type 0 where
  pub entry : GroupEntry
  pub above : GroupEntry
  pub below : IsTwoBelowRoot k.tree g entry above
  pub free : above.cpus ≡ set.empty

-- a target that can take effect: it is not empty, and all of it is online
pub record CanTakeEffect (k : KernelState) (e : Entry) : Type 0 where
  pub some : is_empty e.target ≡ false
  pub online : set.is_subset e.target k.tree.online ≡ true

-- once each live container has its target, and the targets are online, they are in effect as they are
abbrev pub TargetsTakeEffect : Type 0
TargetsTakeEffect =
    (k : KernelState) (entries : List Entry) → IsWellFormed k → AllByRecursion (λ e. HasFreeParent k e.group) entries → AllByRecursion (CanTakeEffect k) entries
    → HaveTargets k entries → AllByRecursion (λ e. is_alive k.table e.pid ≡ true → effective_cpus k.tree e.group ≡ e.target) entries

-- a live container requests a CPU that is online
abbrev pub HasOnline : KernelState → Holder → Type 0
HasOnline k a = is_alive k.table a.pid ≡ true → is_empty (set.intersection (requested_cpus k.tree a.group) k.tree.online) ≡ false

-- while each live container requests a CPU that is online, the sets in effect are safe if the requested ones are
abbrev pub SafeInEffect : Type 0
SafeInEffect =
    (k : KernelState) (reserved : Ids) (holders : List Holder) → IsWellFormed k → AllByRecursion (λ a. HasFreeParent k a.group) holders
    → AllByRecursion (HasOnline k) holders → IsSafe k reserved holders → AreSafe k reserved (effective_cpus k.tree) holders

-- How often the writes of a direct hand-over that are made at once are of one container.
use Rattle.std.specs.Prelude.{◌≡◌, ◌+◌, ◌≤◌, true, false, List, [], ◌∷◌, find, length, Some, None, Result}
use Rattle.std.specs.List.{AllByRecursion}
use Rattle.std.specs.FinSet as set
use Rattle.cpu_set.specs.Ids.{Ids}
use Rattle.cpuset_tree.specs.declared.Group.{Group}
use Rattle.cpuset_tree.specs.Groups.{same_group}
use Rattle.kernel_model.specs.declared.KernelFault.{KernelFault}
use Rattle.kernel_model.specs.KernelState.{KernelState, writes}
use Rattle.apply_plan.specs.declared.Entry.{Entry}
use Rattle.apply_plan.specs.declared.scan.Write.{Write}
use Rattle.apply_plan.specs.Targets.{IsHandover, ArePlaced}
use Rattle.apply_plan.specs.DueWrite.{held, written}
use Rattle.apply_plan.specs.MayWrite.{times_written}
use Rattle.apply_plan.specs.Directed.{Directed, Least, Serves}
use Rattle.apply_plan.specs.DirectWrite.{must_yield}
use Rattle.direct_finish.specs.FinishesDirectly.{FinishesDirectly, asked_for}

-- one that holds its target is not written. One that lets nothing go but reserved CPUs, as it only gets more, is written once at
-- most. So is one that only lets go. No other is written more than twice.
pub record IsSeldomWritten (k : KernelState) (reserved : Ids) (these : List Write) (e : Entry) : Type 0 where
  pub stays : held k e ≡ e.target → times_written e.group these ≡ 0
  pub grows : set.is_subset (set.difference (held k e) e.target) reserved ≡ true → times_written e.group these ≤ 1
  pub shrinks : set.is_subset e.target (held k e) ≡ true → times_written e.group these ≤ 1
  pub most : times_written e.group these ≤ 2

-- so it is with each container, no group of anybody else is written, and they are all that the kernel counted
pub record WritesSeldom (d : Directed) (old : KernelState) (these : List Write) (new : KernelState) : Type 0 where
  pub all : writes new ≡ writes old + length these
  pub each : AllByRecursion (IsSeldomWritten old d.targets.reserved these) d.targets.entries
  pub others : (g : Group) → AllByRecursion (λ e. same_group e.group g ≡ false) d.targets.entries → times_written g these ≡ 0

-- so a hand-over writes that is made at once, the write that fails among the others
abbrev pub FinishesWriteSeldom : Type 0
FinishesWriteSeldom =
    (d : Directed) (least : Least) (old : KernelState) (r : Result (Unit {0}) KernelFault) (new : KernelState) → IsHandover d.targets → Serves d least
    → ArePlaced old d.targets.entries → (f : FinishesDirectly d least old r new) → WritesSeldom d old (asked_for d least old r new f) new

-- in none of the states before these writes one stands in a ring for whom others wait
abbrev pub WithoutRings : Directed → KernelState → List Write → Type 0
WithoutRings d k [] = Unit {0}
WithoutRings d k (w ∷ later) = (find (must_yield k d.targets.reserved d.targets.entries) d.targets.entries ≡ None) × WithoutRings d (written k (Some w)) later

-- then each container is written once at most, since each write is one by which it takes its target
abbrev pub FinishesWriteOnce : Type 0
FinishesWriteOnce =
    (d : Directed) (least : Least) (old : KernelState) (r : Result (Unit {0}) KernelFault) (new : KernelState) → IsHandover d.targets → Serves d least
    → ArePlaced old d.targets.entries → (f : FinishesDirectly d least old r new) → WithoutRings d old (asked_for d least old r new f)
    → AllByRecursion (λ e. times_written e.group (asked_for d least old r new f) ≤ 1) d.targets.entries

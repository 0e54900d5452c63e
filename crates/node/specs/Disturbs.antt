-- The writes of a hand-over one by one, and how many of them are of one container.
use Rattle.std.specs.Prelude.{◌≡◌, ℕ, zero, suc, ◌+◌, ◌≤◌, true, false, List, [], ◌∷◌, length, Option, Some, None, Result}
use Rattle.std.specs.List.{AllByRecursion}
use Rattle.std.specs.FinSet as set
use Rattle.cpu_set.specs.Ids.{Ids, IsDisjoint}
use Rattle.cpuset_tree.specs.declared.Group.{Group}
use Rattle.cpuset_tree.specs.Groups.{same_group}
use Rattle.kernel_model.specs.declared.KernelFault.{KernelFault}
use Rattle.kernel_model.specs.KernelState.{KernelState, writes}
use Rattle.apply_plan.specs.declared.scan.Write.{Write}
use Rattle.apply_plan.specs.Targets.{Targets}
use Rattle.apply_plan.specs.DueWrite.{due}
use Rattle.apply_plan.specs.MayWrite.{times_written}
use Rattle.apply_plan.specs.Finishes as turn
use Rattle.direct_finish.specs.FinishesDirectly.{asked_for}
use Rattle.machine.specs.Layout.{Layout}
use Rattle.node.specs.declared.order.Order.{Order}
use Rattle.node.specs.declared.order.Order.TheVariants.{InTurn, Directly}
use Rattle.node.specs.NodeState.{Ongoing, NodeState}
use Rattle.node.specs.LeastCores.{least_cores}
use Rattle.node.specs.IsNode.{IsNode}
use Rattle.node.specs.Rows.{as_cpus, requested_by}
use Rattle.node.specs.Entries.{Target, plan_targets}
use Rattle.node.specs.Orders.{directed_of, FinishesBy}
use Rattle.node.specs.Rebalance.{Moves}

-- a write before others, where one is due
abbrev pub before : Option Write → List Write → List Write
before None later = later
before (Some w) later = w ∷ later

-- the writes of steps in turn after which more are to come, before others
abbrev pub turn_writes : (h : Targets) (count : ℕ) (old new : KernelState) → turn.StepsMore h count old new → List Write → List Write
turn_writes h zero old new same later = later
turn_writes h (suc count) old new (mid, step, more) later = before (due h old) (turn_writes h count mid new more later)

-- the writes that a hand-over asks the kernel for, in order, and the one that fails among them
abbrev pub asked_by : (order : Order) (m : Layout) (o : Ongoing) (old : KernelState) (r : Result (Unit {0}) KernelFault) (new : KernelState)
    → FinishesBy order m o old r new → List Write
asked_by InTurn m o old r new f = turn_writes o.targets f.steps old f.mid f.more (before (due o.targets f.mid) [])
asked_by Directly m o old r new f = asked_for (directed_of o) (least_cores m) old r new f

-- those of a hand-over to a plan, from `begin` on, which asks for none
abbrev pub writes_of_moves : (order : Order) (old : NodeState) (total : ℕ) (r : Result (Unit {0}) KernelFault) (new : NodeState) → Moves order old total r new → List Write
writes_of_moves order old total r new m =
    let f = m.finishes in
    asked_by f.handover.order m.mid.machine f.handover m.mid.kernel r new.kernel f.makes

-- how often a live container is written that is to have these CPUs. One that requests them already is not at all. One that
-- lets nothing go but reserved CPUs, as it only gets more, is written once at most. So is one that only lets go, none of them
-- reserved. No other is written more than twice.
pub record IsLittleWritten (k : KernelState) (reserved : Ids) (these : List Write) (p : Target) : Type 0 where
  pub stays : requested_by k p.0 ≡ p.1 → times_written p.0.1.group these ≡ 0
  pub grows : set.is_subset (set.difference (requested_by k p.0) p.1) reserved ≡ true → times_written p.0.1.group these ≤ 1
  pub shrinks : set.is_subset p.1 (requested_by k p.0) ≡ true → IsDisjoint (set.difference (requested_by k p.0) p.1) reserved
      → times_written p.0.1.group these ≤ 1
  pub most : times_written p.0.1.group these ≤ 2

-- the writes of a hand-over to these sets. They are all that the kernel counted, each is of a live container, and each of
-- these is written so little.
pub record WritesLittle (old : NodeState) (sets : List Ids) (these : List Write) (new : NodeState) : Type 0 where
  pub all : writes new.kernel ≡ writes old.kernel + length these
  pub each : AllByRecursion (IsLittleWritten old.kernel old.machine.reserved these) (plan_targets old sets)
  pub others : (g : Group) → AllByRecursion (λ p. same_group p.0.1.group g ≡ false) (plan_targets old sets) → times_written g these ≡ 0

-- a rebalance to a plan writes so little in either order, whether it comes to its end or a write fails
abbrev pub RebalancesWriteLittle : Type 0
RebalancesWriteLittle =
    (order : Order) (old : NodeState) (total : ℕ) (r : Result (Unit {0}) KernelFault) (new : NodeState) → IsNode old → (m : Moves order old total r new)
    → WritesLittle old (as_cpus old.machine m.begun.plan) (writes_of_moves order old total r new m) new

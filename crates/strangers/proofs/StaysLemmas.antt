-- What a line that plans or moves leaves of the machine: all CPUs that are present.
use Rattle.std.proofs.Common.{◌≡◌, ℕ, zero, suc, true, List, [], ◌∷◌, Option, Some, None, Result, Ok, Err, refl, sym, ap, ◌∙◌, subst}
use Rattle.std.specs.FinSet as set
use Rattle.faults.specs.declared.or_memory.OrMemory.{OrMemory}
use Rattle.faults.specs.declared.or_memory.OrMemory.TheVariants.{Memory, Fault}
use Rattle.cpu_set.specs.Ids.{Ids}
use Rattle.machine.specs.Layout.{Layout}
use Rattle.machine.specs.Present.{present}
use Rattle.apply_plan.specs.declared.scan.Write.{Write}
use Rattle.apply_plan.specs.Directed.{Directed, Least}
use Rattle.apply_plan.specs.DueWrite.{Steps, due, written}
use Rattle.apply_plan.specs.Finishes.{StepsMore, last_answer}
use Rattle.apply_plan.specs.Targets.{Targets}
use Rattle.apply_plan.specs.declared.Progress.{Progress}
use Rattle.apply_plan.specs.declared.Progress.TheVariants.{More, Done}
use Rattle.direct_finish.specs.FinishesDirectly.{EndsAt, after}
use Rattle.kernel_model.specs.declared.fault.KernelFault.{KernelFault}
use Rattle.kernel_model.specs.KernelState.{KernelState}
use Rattle.kernel_model.specs.Refusals.{online_refusal}
use Rattle.node.specs.declared.fault.NodeFault.{NodeFault}
use Rattle.node.specs.declared.fault.NodeFault.TheVariants.{Busy, NoHandover, Kernel}
use Rattle.node.specs.declared.order.Order.{Order}
use Rattle.node.specs.declared.order.Order.TheVariants.{InTurn, Directly}
use Rattle.node.specs.declared.outcome.Outcome.{Outcome}
use Rattle.node.specs.declared.outcome.Outcome.TheVariants.{Plan, Short}
use Rattle.node.specs.IsNode.{IsNode}
use Rattle.node.specs.LeastCores.{least_cores}
use Rattle.node.specs.NodeState.{NodeState, Ongoing}
use Rattle.node.specs.Orders.{FinishesBy, directed_of}
use Rattle.node.specs.Rebalance.{Begins, Moves, Rebalances, StepsOn}
use Rattle.script.specs.Commands.{Asked}
use Rattle.script.specs.Commands as ask
use Rattle.runtime.specs.Answered.{AnsweredWhere, order_of}
use Rattle.runtime.specs.RuntimeState.{RuntimeState, Told}
use Rattle.strangers.specs.Guarded.{IsPlanning, away, can_leave}
use Rattle.strangers.proofs.AwayLemmas.{comes_on, is_present, of_leaving}

abbrev machine_of : NodeState → Layout
machine_of n = n.machine

begin_stays : (order : Order) (old : NodeState) (r : Result Outcome (OrMemory NodeFault)) (new : NodeState) → Begins order old r new → new.machine ≡ old.machine
begin_stays order old (Ok (Plan total)) new b = ap machine_of b.is
begin_stays order old (Ok (Short wanted allowed)) new lacks = ap machine_of lacks.is
begin_stays order old (Err Memory) new h = ap machine_of h.1
begin_stays order old (Err (Fault Busy)) new h = ap machine_of h.1
begin_stays order old (Err (Fault fault)) new none = absurd none

rebalance_stays : (order : Order) (old : NodeState) (r : Result Outcome (OrMemory NodeFault)) (new : NodeState) → Rebalances order old r new → new.machine ≡ old.machine
rebalance_stays order old (Ok (Plan total)) new m = ap machine_of m.finishes.is ∙ ap machine_of m.begun.is
rebalance_stays order old (Ok (Short wanted allowed)) new lacks = ap machine_of lacks.is
rebalance_stays order old (Err Memory) new h = ap machine_of h.1
rebalance_stays order old (Err (Fault Busy)) new h = ap machine_of h.1
rebalance_stays order old (Err (Fault (Kernel fault))) new (total, m) = ap machine_of m.finishes.is ∙ ap machine_of m.begun.is
rebalance_stays order old (Err (Fault fault)) new none = absurd none

step_stays : (old : NodeState) (r : Result Progress NodeFault) (new : NodeState) → StepsOn old r new → new.machine ≡ old.machine
step_stays old (Ok More) new s = ap machine_of s.is
step_stays old (Ok Done) new s = ap machine_of s.is
step_stays old (Err NoHandover) new h = ap machine_of h.1
step_stays old (Err (Kernel fault)) new s = ap machine_of s.is
step_stays old (Err fault) new none = absurd none

-- the writes of a hand-over leave the CPUs that are online
abbrev online_of : KernelState → Ids
online_of k = k.tree.online

written_online : (k : KernelState) (w : Option Write) → online_of (written k w) ≡ online_of k
written_online k None = refl
written_online k (Some w) = refl

steps_online : (h : Targets) (old : KernelState) (r : Result Progress KernelFault) (new : KernelState) → Steps h old r new → online_of new ≡ online_of old
steps_online h old (Ok answer) new (is, progress) = ap online_of is ∙ written_online old (due h old)
steps_online h old (Err fault) new (failed, is, there) = ap online_of is

more_online : (h : Targets) (n : ℕ) (old new : KernelState) → StepsMore h n old new → online_of new ≡ online_of old
more_online h zero old new same = ap online_of same
more_online h (suc n) old new (mid, step, more) = more_online h n mid new more ∙ steps_online h old (Ok More) mid step

after_online : (k : KernelState) (writes : List Write) → online_of (after k writes) ≡ online_of k
after_online k [] = refl
after_online k (w ∷ writes) = after_online (written k (Some w)) writes

ends_online : (d : Directed) (least : Least) (last : KernelState) (r : Result (Unit {0}) KernelFault) (new : KernelState) → EndsAt d least last r new → online_of new ≡ online_of last
ends_online d least last (Ok done) new (is, none) = ap online_of is
ends_online d least last (Err fault) new (failed, (w, may, is)) = ap online_of is

finishes_online : (order : Order) (m : Layout) (o : Ongoing) (old : KernelState) (r : Result (Unit {0}) KernelFault) (new : KernelState) → FinishesBy order m o old r new
    → online_of new ≡ online_of old
finishes_online InTurn m o old r new f = steps_online o.targets f.mid (last_answer r) new f.ends ∙ more_online o.targets f.steps old f.mid f.more
finishes_online Directly m o old r new f = ends_online (directed_of o) (least_cores m) (after old f.writes) r new f.ends ∙ after_online old f.writes

pub moves_online : (order : Order) (old : NodeState) (total : ℕ) (r : Result (Unit {0}) KernelFault) (new : NodeState) → Moves order old total r new
    → new.kernel.tree.online ≡ old.kernel.tree.online
moves_online order old total r new m =
    finishes_online m.finishes.handover.order m.mid.machine m.finishes.handover m.mid.kernel r new.kernel m.finishes.makes
    ∙ ap (λ (n : NodeState). online_of n.kernel) m.begun.is

module _ (sees : Told → List ℕ → Option (List ℕ) → Type 0) where
  machine_stays : (command : Asked) → IsPlanning command → (old : RuntimeState) (text : List ℕ) (new : RuntimeState) → AnsweredWhere sees old command text new
      → new.node.machine ≡ old.node.machine
  machine_stays (ask.rebalance direct) planning old text new ((r, h, e), same) = rebalance_stays (order_of direct) old.node r new.node h
  machine_stays (ask.begin direct) planning old text new ((r, h, e), same) = begin_stays (order_of direct) old.node r new.node h
  machine_stays ask.step planning old text new ((r, h, e), same) = step_stays old.node r new.node h
  machine_stays command none old text new answered = absurd none

  -- so CPUs that were taken away for it may come online
  pub may_come : (cpus : Ids) (command : Asked) → IsPlanning command → (old : RuntimeState) (text : List ℕ) (last : RuntimeState) → IsNode old.node → IsNode last.node
      → AnsweredWhere sees (away old (can_leave cpus old.node.kernel)) command text last
      → (q : ℕ) → set.contains (can_leave cpus old.node.kernel) q ≡ true → online_refusal last.node.kernel q ≡ None
  may_come cpus command planning old text last node end answered q m =
      let same : old.node.kernel.present ≡ last.node.kernel.present =
      node.machine.present ∙ ap present (sym (machine_stays command planning (away old (can_leave cpus old.node.kernel)) text last answered)) ∙ sym end.machine.present in
      comes_on last.node.kernel q (subst (λ (s : Ids). set.contains s q ≡ true) same (is_present old.node node q (of_leaving cpus old.node.kernel q m).1))

-- What holds of a node holds after any list of calls and events.
use Rattle.std.proofs.Common.{◌≡◌, inl, inr, ℕ, zero, suc, List, [], ◌∷◌, Some, refl, sym, ap, ◌∙◌, subst}
use Rattle.std.proofs.lemmas.Option.{same_Some}
use Rattle.std.specs.List.{AllByRecursion}
use Rattle.std.specs.Prelude.{None, map, Result, Ok, Err}
use Rattle.cpu_set.specs.Ids.{Ids}
use Rattle.kernel_model.specs.declared.KernelFault.{KernelFault}
use Rattle.kernel_model.specs.declared.KernelFault.TheVariants.{NoPids}
use Rattle.faults.specs.declared.OrMemory.{OrMemory}
use Rattle.faults.specs.declared.OrMemory.TheVariants.{Memory, Fault}
use Rattle.rows.specs.Scaled.{ScaledRowsWeigh}
use Rattle.rows.specs.Weighs.{RowsWeigh}
use Rattle.apply_plan.specs.declared.Progress.{Progress}
use Rattle.apply_plan.specs.declared.Progress.TheVariants.{More, Done}
use Rattle.apply_plan.specs.Effects.{HasFreeParent, TargetsTakeEffect, SafeInEffect}
use Rattle.node.specs.declared.fault.NodeFault.{NodeFault}
use Rattle.node.specs.declared.order.Order.TheVariants.{InTurn}
use Rattle.node.specs.declared.fault.NodeFault.TheVariants.{Busy, BadId, IdInUse, TooManyContainers, NoContainer, NotCreated, NotRunnable, BadSignal, NotLive, NotStopped, NoHandover, NoAnswer, NotFree, Config, Demand, Kernel}
use Rattle.node.specs.declared.phase.Phase.TheVariants.{Settled, Unsettled}
use Rattle.node.specs.NodeState.{Ongoing, NodeState}
use Rattle.node.specs.Owners.{owners_of}
use Rattle.node.specs.IsNode.{IsNode}
use Rattle.node.specs.Updates.{Updates}
use Rattle.node.specs.Calls.{NotLaunched, Ended, Places, Starts, Kills, Deletes}
use Rattle.node.specs.Rows.{as_cpus}
use Rattle.node.specs.Entries.{opened}
use Rattle.node.specs.Rebalance.{StepsOn, Writes, Misses}
use Rattle.node.specs.Machine.{Event, Step, IsOneWrite, IsOneStep, Run, RunsKeep, RunsStaySafe, RunsStayApart, RebalancesAreWrites, RebalancesAreSteps, DirectWritesKeep, RunsRebalance}
use Rattle.node.specs.Machine.Event.{Create, Adopt, Update, Start, Kill, Delete, Rebalance, Begin, StepOn, WriteOn, MissOn, Ask, Fork, Exit, Offline, Online}
use Rattle.node.proofs.NodeLemmas.{fork_node, exit_node, offline_node, online_node, end_node, remove_refused_node, created_node, not_created_node, updated_node, not_updated_node, deleted_node, started_node}
use Rattle.node.proofs.OrderLemmas.{OrdersLeave}
use Rattle.node.proofs.StepLemmas.{its_writes, its_misses, turn_step, turn_miss, more_node, ended_node, missed_node, wrote, wrote_node}
use Rattle.node.proofs.HeadlineLemmas.{free_parents, begun_node, begins_node, rebalances_node, rebalance_leaves}
use Rattle.node.proofs.FinishLemmas.{WritesMany, Ends, goes_of}
use Rattle.node.proofs.ListLemmas.{all_of_map}

module _ (old : NodeState) (h : IsNode old) (new : NodeState) where
  moved : (other : NodeState) → new ≡ other → IsNode other → IsNode new
  moved other same o = subst (λ (n : NodeState). IsNode n) (sym same) o

  unchanged : new ≡ old → IsNode new
  unchanged same = moved old same h

  not_launched : (cpus : Ids) (id config : List ℕ) (e : OrMemory KernelFault) → NotLaunched cpus old id config e new → IsNode new
  not_launched cpus id config e n = moved (record old { kernel = new.kernel }) n.is (not_created_node old h new.kernel cpus id n.asked e n.free n.refused)

  place_keeps : (cpus : Ids) (id bundle config : List ℕ) (r : Result ℕ (OrMemory NodeFault)) → Places cpus old id bundle config r new → IsNode new
  place_keeps cpus id bundle config (Ok pid) c = moved _ c.is (created_node old h new.kernel cpus id bundle c.said c.asked c.group pid c.free c.says.fits c.may c.launched)
  place_keeps cpus id bundle config (Err Memory) c = elim c [ inl n ↦ not_launched cpus id config Memory n | inr e ↦ unchanged e.2 ]
  place_keeps cpus id bundle config (Err (Fault (Kernel NoPids))) c = unchanged c.is
  place_keeps cpus id bundle config (Err (Fault (Kernel fault))) c = not_launched cpus id config (Fault fault) c
  place_keeps cpus id bundle config (Err (Fault Busy)) c = unchanged c.1
  place_keeps cpus id bundle config (Err (Fault BadId)) c = unchanged c.1
  place_keeps cpus id bundle config (Err (Fault IdInUse)) c = unchanged c.1
  place_keeps cpus id bundle config (Err (Fault TooManyContainers)) c = unchanged c.1
  place_keeps cpus id bundle config (Err (Fault NoContainer)) c = unchanged c.1
  place_keeps cpus id bundle config (Err (Fault NotCreated)) c = unchanged c.1
  place_keeps cpus id bundle config (Err (Fault NotRunnable)) c = unchanged c.1
  place_keeps cpus id bundle config (Err (Fault BadSignal)) c = unchanged c.1
  place_keeps cpus id bundle config (Err (Fault NotLive)) c = unchanged c.1
  place_keeps cpus id bundle config (Err (Fault NotStopped)) c = unchanged c.1
  place_keeps cpus id bundle config (Err (Fault NoHandover)) c = unchanged c.1
  place_keeps cpus id bundle config (Err (Fault NoAnswer)) c = unchanged c.1
  place_keeps cpus id bundle config (Err (Fault (NotFree cpu))) c = unchanged c.1
  place_keeps cpus id bundle config (Err (Fault (Config fault))) c = unchanged c.1
  place_keeps cpus id bundle config (Err (Fault (Demand fault))) c = unchanged c.1

  update_keeps : (id bundle config : List ℕ) (r : Result (Unit {0}) (OrMemory NodeFault)) → Updates old id bundle config r new → IsNode new
  update_keeps id bundle config (Ok done) u = moved _ u.is (updated_node old h new.kernel id u.container u.may u.asked bundle u.says.fits u.rewrites)
  update_keeps id bundle config (Err Memory) u = unchanged u.3
  update_keeps id bundle config (Err (Fault (Kernel fault))) u =
      moved (record old { kernel = new.kernel }) u.1.is (not_updated_node old h new.kernel id u.1.container u.1.may u.1.asked fault u.1.rewrites)
  update_keeps id bundle config (Err (Fault fault)) u = unchanged u.1

  start_keeps : (id : List ℕ) (r : Result (Unit {0}) NodeFault) → Starts old id r new → IsNode new
  start_keeps id (Ok v) s = moved _ s.4 (started_node old h id s.0 s.1)
  start_keeps id (Err fault) s = unchanged s.1

  ended : (id signal : List ℕ) (r : Result (Unit {0}) KernelFault) → Ended old id signal r new → IsNode new
  ended id signal r e = moved (record old { kernel = new.kernel }) e.is (end_node old h new.kernel e.container.group r e.ended)

  kill_keeps : (id signal : List ℕ) (r : Result (Unit {0}) NodeFault) → Kills old id signal r new → IsNode new
  kill_keeps id signal (Ok v) k = ended id signal (Ok tt) k
  kill_keeps id signal (Err (Kernel fault)) k = ended id signal (Err fault) k.1
  kill_keeps id signal (Err Busy) k = unchanged k.1
  kill_keeps id signal (Err BadId) k = unchanged k.1
  kill_keeps id signal (Err IdInUse) k = unchanged k.1
  kill_keeps id signal (Err TooManyContainers) k = unchanged k.1
  kill_keeps id signal (Err NoContainer) k = unchanged k.1
  kill_keeps id signal (Err NotCreated) k = unchanged k.1
  kill_keeps id signal (Err NotRunnable) k = unchanged k.1
  kill_keeps id signal (Err BadSignal) k = unchanged k.1
  kill_keeps id signal (Err NotLive) k = unchanged k.1
  kill_keeps id signal (Err NotStopped) k = unchanged k.1
  kill_keeps id signal (Err NoHandover) k = unchanged k.1
  kill_keeps id signal (Err NoAnswer) k = unchanged k.1
  kill_keeps id signal (Err (NotFree cpu)) k = unchanged k.1
  kill_keeps id signal (Err (Config fault)) k = unchanged k.1
  kill_keeps id signal (Err (Demand fault)) k = unchanged k.1

  delete_keeps : (id : List ℕ) (r : Result (Unit {0}) NodeFault) → Deletes old id r new → IsNode new
  delete_keeps id (Ok v) d = moved _ d.is (deleted_node old h new.kernel d.settled id d.container d.there d.stopped tt d.removed)
  delete_keeps id (Err (Kernel fault)) d = moved (record old { kernel = new.kernel }) d.1.is (remove_refused_node old h new.kernel d.1.container.group fault d.1.removed)
  delete_keeps id (Err Busy) d = unchanged d.1
  delete_keeps id (Err BadId) d = unchanged d.1
  delete_keeps id (Err IdInUse) d = unchanged d.1
  delete_keeps id (Err TooManyContainers) d = unchanged d.1
  delete_keeps id (Err NoContainer) d = unchanged d.1
  delete_keeps id (Err NotCreated) d = unchanged d.1
  delete_keeps id (Err NotRunnable) d = unchanged d.1
  delete_keeps id (Err BadSignal) d = unchanged d.1
  delete_keeps id (Err NotLive) d = unchanged d.1
  delete_keeps id (Err NotStopped) d = unchanged d.1
  delete_keeps id (Err NoHandover) d = unchanged d.1
  delete_keeps id (Err NoAnswer) d = unchanged d.1
  delete_keeps id (Err (NotFree cpu)) d = unchanged d.1
  delete_keeps id (Err (Config fault)) d = unchanged d.1
  delete_keeps id (Err (Demand fault)) d = unchanged d.1

  stepped : (law : OrdersLeave) (r : Result Progress NodeFault) → StepsOn old r new → IsNode new
  stepped law (Ok More) s = moved _ s.is (more_node law old h s.handover s.was new.kernel (Ok More) s.steps)
  stepped law (Ok Done) s = moved _ s.is (ended_node law old h s.handover s.was new.kernel (Ok Done) s.steps Settled refl)
  stepped law (Err (Kernel fault)) s = moved _ s.is (ended_node law old h s.handover s.was new.kernel (Err fault) s.steps Unsettled refl)
  stepped law (Err NoHandover) s = unchanged s.1
  stepped law (Err fault) s = absurd s

  step_keeps : OrdersLeave → (event : Event) → Step old event new → IsNode new
  step_keeps law (Create id bundle config answer) s = place_keeps old.machine.reserved id bundle config answer s
  step_keeps law (Adopt id bundle config cpus answer) s = place_keeps cpus id bundle config answer s
  step_keeps law (Update id bundle config answer) s = update_keeps id bundle config answer s
  step_keeps law (Start id answer) s = start_keeps id answer s
  step_keeps law (Kill id signal answer) s = kill_keeps id signal answer s
  step_keeps law (Delete id answer) s = delete_keeps id answer s
  step_keeps law (Rebalance order answer) s = rebalances_node order old h law answer new s
  step_keeps law (Begin order answer) s = begins_node order old h answer new s
  step_keeps law (StepOn answer) s = stepped law answer s
  step_keeps law WriteOn s =
      moved (record old { kernel = new.kernel }) s.is (wrote_node law old h s.handover s.was new.kernel (its_writes old s.handover s.was new s))
  step_keeps law (MissOn fault) s =
      moved (record old { kernel = new.kernel; phase = Unsettled; ongoing = None }) s.is
      (missed_node law old h s.handover s.was fault new.kernel (its_misses old s.handover s.was fault new s))
  step_keeps law (Ask question) s = unchanged s.1
  step_keeps law (Fork parent answer) s = moved (record old { kernel = new.kernel }) s.1 (fork_node old h new.kernel parent answer s.0)
  step_keeps law (Exit pid answer) s = moved (record old { kernel = new.kernel }) s.1 (exit_node old h new.kernel pid answer s.0)
  step_keeps law (Offline cpu answer) s = moved (record old { kernel = new.kernel }) s.1 (offline_node old h new.kernel cpu answer s.0)
  step_keeps law (Online cpu answer) s = moved (record old { kernel = new.kernel }) s.1 (online_node old h new.kernel cpu answer s.0)

module _ (law : OrdersLeave) where
  pub runs_keep : RunsKeep
  runs_keep old [] new h r = subst (λ (n : NodeState). IsNode n) (sym r) h
  runs_keep old (event ∷ later) new h r = runs_keep r.0 later new (step_keeps old h r.0 law event r.1) r.2

  pub runs_stay_safe : RunsStaySafe
  runs_stay_safe old events new h r = (runs_keep old events new h r).holds.safe

  pub runs_stay_apart : SafeInEffect → RunsStayApart
  runs_stay_apart in_effect old events new h r online =
      let holds = (runs_keep old events new h r).holds in
      let owners = owners_of new.containers in
      in_effect new.kernel new.kernel.reserved (map (λ o. o.holder) owners) holds.kernel
      (all_of_map (λ o. o.holder) (λ a. HasFreeParent new.kernel a.group) owners (free_parents new.kernel new.parent owners holds)) online holds.safe

  pub runs_rebalance : TargetsTakeEffect → RowsWeigh → ScaledRowsWeigh → RunsRebalance
  runs_rebalance effects weigh parts first events order old answer new h r b = rebalance_leaves order old (runs_keep first events old h r) law effects weigh parts answer new b

-- what ends a hand-over, as an event
abbrev ending : Result (Unit {0}) KernelFault → Event
ending (Ok done) = StepOn (Ok Done)
ending (Err fault) = MissOn fault

end_run : (old mid new : NodeState) (answer : Result (Unit {0}) KernelFault) → mid ≡ old → Ends mid answer new
    → IsOneWrite (ending answer) × Run old (ending answer ∷ []) new
end_run old mid new (Ok done) same ends = (tt, (new, subst (λ (n : NodeState). StepsOn n (Ok Done) new) same ends, refl))
end_run old mid new (Err fault) same ends = (tt, (new, subst (λ (n : NodeState). Misses n fault new) same ends, refl))

-- the writes to the end of a hand-over, as events
writes_run : (count : ℕ) (old mid new : NodeState) (answer : Result (Unit {0}) KernelFault) → WritesMany count old mid → Ends mid answer new
    → (writes : List Event) × AllByRecursion IsOneWrite writes × Run old writes new
writes_run zero old mid new answer more ends =
    let last = end_run old mid new answer more ends in (ending answer ∷ [], (last.0, tt), last.1)
writes_run (suc count) old mid new answer more ends =
    let later = writes_run count more.0 mid new answer more.2 ends in (WriteOn ∷ later.0, (tt, later.1), (more.0, more.1, later.2))

pub rebalances_are_writes : OrdersLeave → RebalancesAreWrites
rebalances_are_writes law order old total answer new h m =
    let f = goes_of law m.mid (begun_node order old h total m.mid m.begun) answer new m.finishes in
    let writes = writes_run f.count m.mid f.mid new answer f.writes f.ends in
    (writes.0, writes.1, (m.mid, m.begun, writes.2))

-- in turn each of them is a step after which more are to come
module _ (o : Ongoing) (in_turn : o.order ≡ InTurn) where
  one_step : (old new : NodeState) → old.ongoing ≡ Some o → Writes old new → StepsOn old (Ok More) new
  one_step old new was s = record {
    handover = s.handover;
    was = s.was;
    steps = turn_step s.handover.order (ap (λ (x : Ongoing). x.order) (same_Some s.handover o (sym s.was ∙ was)) ∙ in_turn)
        old.machine s.handover old.kernel new.kernel s.writes;
    is = s.is;
  }

  -- one that fails is a step too
  one_miss : (old new : NodeState) (fault : KernelFault) → old.ongoing ≡ Some o → Misses old fault new → StepsOn old (Err (Kernel fault)) new
  one_miss old new fault was s = record {
    handover = s.handover;
    was = s.was;
    steps = turn_miss s.handover.order (ap (λ (x : Ongoing). x.order) (same_Some s.handover o (sym s.was ∙ was)) ∙ in_turn)
        old.machine s.handover old.kernel fault new.kernel s.misses;
    is = s.is;
  }

  abbrev last_step : Result (Unit {0}) KernelFault → Event
  last_step (Ok done) = StepOn (Ok Done)
  last_step (Err fault) = StepOn (Err (Kernel fault))

  last_run : (old mid new : NodeState) (answer : Result (Unit {0}) KernelFault) → old.ongoing ≡ Some o → mid ≡ old → Ends mid answer new
      → IsOneStep (last_step answer) × Run old (last_step answer ∷ []) new
  last_run old mid new (Ok done) was same ends = (tt, (new, subst (λ (n : NodeState). StepsOn n (Ok Done) new) same ends, refl))
  last_run old mid new (Err fault) was same ends = (tt, (new, one_miss old new fault was (subst (λ (n : NodeState). Misses n fault new) same ends), refl))

  steps_run : (count : ℕ) (old mid new : NodeState) (answer : Result (Unit {0}) KernelFault) → old.ongoing ≡ Some o → WritesMany count old mid → Ends mid answer new
      → (steps : List Event) × AllByRecursion IsOneStep steps × Run old steps new
  steps_run zero old mid new answer was more ends =
      let last = last_run old mid new answer was more ends in (last_step answer ∷ [], (last.0, tt), last.1)
  steps_run (suc count) old mid new answer was more ends =
      let still : more.0.ongoing ≡ Some o = ap (λ (n : NodeState). n.ongoing) more.1.is ∙ was in
      let later = steps_run count more.0 mid new answer still more.2 ends in
      (StepOn (Ok More) ∷ later.0, (tt, later.1), (more.0, one_step old more.0 was more.1, later.2))

pub rebalances_are_steps : OrdersLeave → RebalancesAreSteps
rebalances_are_steps law old total answer new h m =
    let b = m.begun in
    let f = goes_of law m.mid (begun_node InTurn old h total m.mid b) answer new m.finishes in
    let steps = steps_run (opened InTurn old (as_cpus old.machine b.plan)) refl f.count m.mid f.mid new answer (ap (λ (n : NodeState). n.ongoing) b.is) f.writes f.ends in
    (steps.0, steps.1, (m.mid, b, steps.2))

pub direct_writes_keep : OrdersLeave → DirectWritesKeep
direct_writes_keep law old new o h s was directly =
    let left = wrote law old h o was new.kernel (its_writes old o was new s) in
    record { stuck = left.squeezes directly; way = left.way directly }

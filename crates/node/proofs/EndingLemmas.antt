-- How long a hand-over lasts that is stepped.
use Rattle.std.proofs.Common.{◌≡◌, inl, inr, ℕ, ◌+◌, ◌*◌, ◌≤◌, true, false, List, [], ◌∷◌, length, Some, None, refl, sym, ap, ◌∙◌, subst, arith}
use Rattle.std.proofs.lemmas.Bool.{false≢true}
use Rattle.std.specs.Prelude.{Result, Ok, Err}
use Rattle.std.specs.List.{AllByRecursion}
use Rattle.faults.specs.declared.OrMemory.{OrMemory}
use Rattle.faults.specs.declared.OrMemory.TheVariants.{Memory, Fault}
use Rattle.cpu_set.specs.Ids.{Ids}
use Rattle.cpu_set.specs.Members.{InRange}
use Rattle.kernel_model.specs.declared.KernelFault.{KernelFault}
use Rattle.kernel_model.specs.declared.KernelFault.TheVariants.{NoPids}
use Rattle.kernel_model.specs.declared.Call.{Call}
use Rattle.kernel_model.specs.declared.Call.TheVariants as call
use Rattle.kernel_model.specs.declared.Reply.{Reply}
use Rattle.kernel_model.specs.declared.Reply.TheVariants as reply
use Rattle.kernel_model.specs.Runs.{reply_of, reply_at_once}
use Rattle.kernel_model.specs.Runs as kernel
use Rattle.apply_plan.specs.declared.Progress.{Progress}
use Rattle.apply_plan.specs.declared.Progress.TheVariants.{More, Done}
use Rattle.apply_plan.specs.Runs.{LeavesEntries}
use Rattle.node.specs.declared.fault.NodeFault.{NodeFault}
use Rattle.node.specs.declared.fault.NodeFault.TheVariants.{Busy, NoHandover, Kernel}
use Rattle.node.specs.declared.order.Order.{Order}
use Rattle.node.specs.declared.outcome.Outcome.{Outcome}
use Rattle.node.specs.declared.outcome.Outcome.TheVariants.{Plan, Short}
use Rattle.node.specs.NodeState.{Ongoing, NodeState, is_underway}
use Rattle.node.specs.Owners.{owners_of}
use Rattle.node.specs.Ongoing.{Stands}
use Rattle.node.specs.Orders.{left_of}
use Rattle.node.specs.IsNode.{IsNode}
use Rattle.node.specs.Updates.{Updates}
use Rattle.node.specs.Calls.{Ended, Places, Starts, Kills, Deletes}
use Rattle.node.specs.Rebalance.{Begins, StepsOn, Writes, Rebalances}
use Rattle.node.specs.Machine.{Event, Step, Run}
use Rattle.node.specs.Machine.Event.{Create, Adopt, Update, Start, Kill, Delete, Rebalance, Begin, StepOn, WriteOn, MissOn, Ask, Fork, Exit, Offline, Online}
use Rattle.node.specs.Ending.{step_in, steps_in, IsMore, HandoversEnd}
use Rattle.node.proofs.OrderLemmas.{OrdersLeave, CallsLeave, FewBy}
use Rattle.node.proofs.StepLemmas.{its_steps, its_writes, open_now, leaves, wrote}
use Rattle.node.proofs.MachineLemmas.{runs_keep}

-- what so many steps leave of the hand-over
record Lasts (o : Ongoing) (old : NodeState) (steps : ℕ) (new : NodeState) : Type 0 where
  pub still : new.ongoing ≡ Some o
  pub falls : steps + left_of o new.kernel ≤ left_of o old.kernel

module _ (law : OrdersLeave) (ends : CallsLeave) (o : Ongoing) (old : NodeState) (h : IsNode old) (was : old.ongoing ≡ Some o) where
  -- so no call is made that wants none open
  underway : is_underway old.phase ≡ true
  underway = (subst (Stands old.kernel (owners_of old.containers) (is_underway old.phase)) was h.stands).0

  ranged : AllByRecursion InRange o.allowed
  ranged = (subst (Stands old.kernel (owners_of old.containers) (is_underway old.phase)) was h.stands).1.ranged

  module _ (new : NodeState) where
    open_already : is_underway old.phase ≡ false → Lasts o old 0 new
    open_already settled = absurd (false≢true (sym settled ∙ underway))

    same_kernel : new.ongoing ≡ old.ongoing → new.kernel ≡ old.kernel → Lasts o old 0 new
    same_kernel still same =
        let e : left_of o new.kernel ≡ left_of o old.kernel = ap (left_of o) same in
        record { still = still ∙ was; falls = omega (arith, e) }

    unchanged : new ≡ old → Lasts o old 0 new
    unchanged same = same_kernel (ap (λ (n : NodeState). n.ongoing) same) (ap (λ (n : NodeState). n.kernel) same)

    called : new.ongoing ≡ old.ongoing → (c : Call) → LeavesEntries o.targets.entries c → (r : Result Reply (OrMemory KernelFault))
        → kernel.Step old.kernel c r new.kernel → Lasts o old 0 new
    called still c apart r step =
        let e : left_of o new.kernel ≤ left_of o old.kernel =
        ends o.order old.machine o old.kernel new.kernel c r h.layout.sound ranged (open_now law old h o was) apart step in
        record { still = still ∙ was; falls = omega (arith, e) }

    stepped : StepsOn old (Ok More) new → Lasts o old 1 new
    stepped s =
        let e : left_of o new.kernel + 1 ≤ left_of o old.kernel =
        (leaves law old h o was new.kernel (Ok More) (its_steps old o was new (Ok More) old.phase old.ongoing s)).fewer refl in
        record { still = ap (λ (n : NodeState). n.ongoing) s.is ∙ was; falls = omega (arith, e) }

    wrote_one : Writes old new → Lasts o old 0 new
    wrote_one s =
        let e : left_of o new.kernel + 1 ≤ left_of o old.kernel = (wrote law old h o was new.kernel (its_writes old o was new s)).fewer in
        record { still = ap (λ (n : NodeState). n.ongoing) s.is ∙ was; falls = omega (arith, e) }

    place_goes : (cpus : Ids) (id bundle config : List ℕ) (r : Result ℕ (OrMemory NodeFault)) → Places cpus old id bundle config r new → Lasts o old 0 new
    place_goes cpus id bundle config (Ok pid) c = open_already c.free.settled
    place_goes cpus id bundle config (Err Memory) (inl n) = open_already n.free.settled
    place_goes cpus id bundle config (Err Memory) (inr same) = unchanged same.2
    place_goes cpus id bundle config (Err (Fault (Kernel NoPids))) same = unchanged same.is
    place_goes cpus id bundle config (Err (Fault (Kernel fault))) n = open_already n.free.settled
    place_goes cpus id bundle config (Err (Fault fault)) same = unchanged same.1

    update_goes : (id bundle config : List ℕ) (r : Result (Unit {0}) (OrMemory NodeFault)) → Updates old id bundle config r new → Lasts o old 0 new
    update_goes id bundle config (Ok done) u = open_already u.may.settled
    update_goes id bundle config (Err Memory) u = unchanged u.3
    update_goes id bundle config (Err (Fault (Kernel fault))) u = open_already u.1.may.settled
    update_goes id bundle config (Err (Fault fault)) u = unchanged u.1

    start_goes : (id : List ℕ) (r : Result (Unit {0}) NodeFault) → Starts old id r new → Lasts o old 0 new
    start_goes id (Ok done) s = same_kernel (ap (λ (n : NodeState). n.ongoing) s.4) (ap (λ (n : NodeState). n.kernel) s.4)
    start_goes id (Err fault) s = unchanged s.1

    ended : (id signal : List ℕ) (r : Result (Unit {0}) KernelFault) → Ended old id signal r new → Lasts o old 0 new
    ended id signal r e =
        called (ap (λ (n : NodeState). n.ongoing) e.is) (call.EndGroup e.container.group) tt (reply_at_once (λ _. reply.Done) r) (r, refl, e.ended)

    kill_goes : (id signal : List ℕ) (r : Result (Unit {0}) NodeFault) → Kills old id signal r new → Lasts o old 0 new
    kill_goes id signal (Ok done) k = ended id signal (Ok tt) k
    kill_goes id signal (Err (Kernel fault)) k = ended id signal (Err fault) k.1
    kill_goes id signal (Err fault) k = unchanged k.1

    delete_goes : (id : List ℕ) (r : Result (Unit {0}) NodeFault) → Deletes old id r new → Lasts o old 0 new
    delete_goes id (Ok done) d = open_already d.settled
    delete_goes id (Err (Kernel fault)) d = open_already d.1.settled
    delete_goes id (Err fault) d = unchanged d.1

    begin_goes : (order : Order) (r : Result Outcome (OrMemory NodeFault)) → Begins order old r new → Lasts o old 0 new
    begin_goes order (Ok (Plan total)) b = open_already b.settled
    begin_goes order (Ok (Short wanted allowed)) b = open_already b.settled
    begin_goes order (Err Memory) b = open_already b.0
    begin_goes order (Err (Fault Busy)) b = unchanged b.1
    begin_goes order (Err (Fault fault)) b = absurd b

    rebalance_goes : (order : Order) (r : Result Outcome (OrMemory NodeFault)) → Rebalances order old r new → Lasts o old 0 new
    rebalance_goes order (Ok (Plan total)) m = open_already m.begun.settled
    rebalance_goes order (Ok (Short wanted allowed)) b = open_already b.settled
    rebalance_goes order (Err (Fault (Kernel fault))) m = open_already m.1.begun.settled
    rebalance_goes order (Err Memory) b = open_already b.0
    rebalance_goes order (Err (Fault Busy)) b = unchanged b.1
    rebalance_goes order (Err (Fault fault)) b = absurd b

    goes : (event : Event) → Step old event new → IsMore event → Lasts o old (step_in event) new
    goes (Create id bundle config answer) s more = place_goes old.machine.reserved id bundle config answer s
    goes (Adopt id bundle config cpus answer) s more = place_goes cpus id bundle config answer s
    goes (Update id bundle config answer) s more = update_goes id bundle config answer s
    goes (Start id answer) s more = start_goes id answer s
    goes (Kill id signal answer) s more = kill_goes id signal answer s
    goes (Delete id answer) s more = delete_goes id answer s
    goes (Rebalance order answer) s more = rebalance_goes order answer s
    goes (Begin order answer) s more = begin_goes order answer s
    goes (StepOn answer) s more = stepped (subst (λ (r : Result Progress NodeFault). StepsOn old r new) more s)
    goes WriteOn s more = wrote_one s
    goes (MissOn fault) s more = absurd more
    goes (Ask question) s more = unchanged s.1
    goes (Fork parent answer) s more = called (ap (λ (n : NodeState). n.ongoing) s.1) (call.Fork parent) tt (reply_of reply.Pid answer) (answer, refl, s.0)
    goes (Exit pid answer) s more =
        called (ap (λ (n : NodeState). n.ongoing) s.1) (call.Exit pid) tt (reply_at_once (λ _. reply.Done) answer) (answer, refl, s.0)
    goes (Offline cpu answer) s more =
        called (ap (λ (n : NodeState). n.ongoing) s.1) (call.Offline cpu) tt (reply_at_once (λ _. reply.Done) answer) (answer, refl, s.0)
    goes (Online cpu answer) s more =
        called (ap (λ (n : NodeState). n.ongoing) s.1) (call.OnlineCpu cpu) tt (reply_at_once (λ _. reply.Done) answer) (answer, refl, s.0)

  -- where at most one write is to come, a step ends it
  last_ends : left_of o old.kernel ≤ 1 → (r : Result Progress NodeFault) (after : NodeState) → StepsOn old r after → after.ongoing ≡ None
  last_ends few (Ok More) after s =
      let steps = its_steps old o was after (Ok More) old.phase old.ongoing s in
      let left = leaves law old h o was after.kernel (Ok More) steps in
      let falls : left_of o after.kernel + 1 ≤ left_of o old.kernel = left.fewer refl in
      let one : 1 ≤ left_of o after.kernel = left.more refl in
      absurd (omega (arith, few, falls, one))
  last_ends few (Ok Done) after s = ap (λ (n : NodeState). n.ongoing) s.is
  last_ends few (Err (Kernel fault)) after s = ap (λ (n : NodeState). n.ongoing) s.is
  last_ends few (Err NoHandover) after s = absurd (false≢true (sym s.0 ∙ underway))
  last_ends few (Err fault) after s = absurd s

module _ (law : OrdersLeave) (ends : CallsLeave) (o : Ongoing) where
  lasts : (old : NodeState) (events : List Event) (new : NodeState) → IsNode old → old.ongoing ≡ Some o → Run old events new → AllByRecursion IsMore events
      → Lasts o old (steps_in events) new
  lasts old [] new h was r more = unchanged law ends o old h was new r
  lasts old (event ∷ later) new h was (mid, step, run) more =
      let first = goes law ends o old h was mid event step more.0 in
      let rest = lasts mid later new (runs_keep law old (event ∷ []) mid h (mid, step, refl)) first.still run more.1 in
      let a : step_in event + left_of o mid.kernel ≤ left_of o old.kernel = first.falls in
      let b : steps_in later + left_of o new.kernel ≤ left_of o mid.kernel = rest.falls in
      record { still = rest.still; falls = omega (arith, a, b) }

pub handovers_end : OrdersLeave → CallsLeave → FewBy → HandoversEnd
handovers_end law ends few old o events new h was run more =
    let last = lasts law ends o old events new h was run more in
    let falls : steps_in events + left_of o new.kernel ≤ left_of o old.kernel = last.falls in
    let at_most : left_of o old.kernel ≤ 2 * length o.targets.entries = few o.order o.targets old.kernel in
    record {
      still = last.still;
      falls = falls;
      few = at_most;
      ends = λ all. last_ends law ends o new (runs_keep law old events new h run) last.still (omega (arith, falls, at_most, all));
    }

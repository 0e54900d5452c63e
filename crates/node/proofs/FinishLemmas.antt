-- What the steps of a hand-over leave, once it ended.
use Rattle.std.proofs.Common.{◌≡◌, ℕ, zero, suc, ◌+◌, ◌≤◌, List, [], ◌∷◌, length, true, Some, None, refl, sym, ap, ◌∙◌, subst, arith}
use Rattle.std.proofs.lemmas.Bool.{false≢true}
use Rattle.std.specs.Prelude.{Option, is_none, Result, Ok, Err, IfErr}
use Rattle.kernel_model.specs.declared.KernelFault.{KernelFault}
use Rattle.kernel_model.specs.declared.KernelFault.TheVariants.{Failed}
use Rattle.kernel_model.specs.KernelState.{KernelState, writes}
use Rattle.kernel_model.specs.Cases.{rise}
use Rattle.apply_plan.specs.declared.Progress.{Progress}
use Rattle.apply_plan.specs.declared.Progress.TheVariants.{Done}
use Rattle.apply_plan.specs.declared.scan.Write.{Write}
use Rattle.apply_plan.specs.DueWrite.{Steps, written, progress_of, HaveTargets, writes_to_come, Spends}
use Rattle.apply_plan.specs.Finishes as turn
use Rattle.apply_plan.specs.Finishes.{last_answer}
use Rattle.apply_plan.specs.Leaves.{KeepsRest}
use Rattle.apply_plan.specs.LeavesLemmas.{rest_then}
use Rattle.apply_plan.specs.Runs.{IsOpen}
use Rattle.apply_plan.specs.Directed.{Serves}
use Rattle.apply_plan.specs.DirectWrite.{due_directly}
use Rattle.direct_finish.specs.FinishesDirectly.{MayFollow, Follow, after, EndsAt, FinishesDirectly}
use Rattle.direct_finish.specs.FinishLemmas.{last_placed}
use Rattle.direct_finish.specs.FollowersLeave.{StepsFollow}
use Rattle.direct_finish.specs.FollowerLemmas.{each_step_follows}
use Rattle.node.specs.declared.order.Order.{Order}
use Rattle.node.specs.declared.order.Order.TheVariants.{InTurn, Directly}
use Rattle.node.specs.declared.phase.Phase.{Phase}
use Rattle.node.specs.declared.phase.Phase.TheVariants.{Settled, Unsettled}
use Rattle.node.specs.NodeState.{Ongoing, NodeState, is_underway}
use Rattle.node.specs.Owners.{owners_of}
use Rattle.node.specs.Ongoing.{IsOngoing, Stands, IsBroken}
use Rattle.node.specs.IsNode.{IsNode}
use Rattle.node.specs.LeastCores.{least_cores}
use Rattle.node.specs.Orders.{directed_of, StepsBy, WritesBy, MissesBy, FinishesBy, left_of}
use Rattle.node.specs.Rebalance.{Stepped, StepsOn, Writes, Misses, Finishes, phase_after}
use Rattle.node.proofs.OrderLemmas.{StepLeft, OrdersLeave}
use Rattle.node.proofs.StepLemmas.{its_steps, its_writes, its_misses, open_now, served_now, leaves, moved_on, ended_node, missed, missed_on, missed_node, wrote, wrote_node}

-- so many of the writes, one after another
abbrev pub WritesMany : ℕ → NodeState → NodeState → Type 0
WritesMany zero old new = new ≡ old
WritesMany (suc n) old new = (mid : NodeState) × Writes old mid × WritesMany n mid new

-- what ends a hand-over: a step that finds no more to come, or one of the writes, which fails
abbrev pub Ends : NodeState → Result (Unit {0}) KernelFault → NodeState → Type 0
Ends old (Ok done) new = StepsOn old (Ok Done) new
Ends old (Err fault) new = Misses old fault new

-- a hand-over whose writes are made all at once, write by write
pub record Goes (old : NodeState) (r : Result (Unit {0}) KernelFault) (new : NodeState) : Type 0 where
  pub count : ℕ
  pub mid : NodeState
  pub writes : WritesMany count old mid
  pub ends : Ends mid r new

-- what a hand-over leaves that came to its end: a node in which each of its live containers has its target; and nothing
-- changed but what its groups request
pub record Settles (o : Ongoing) (old new : NodeState) : Type 0 where
  pub node : IsNode new
  pub targets : HaveTargets new.kernel o.targets.entries
  pub rest : KeepsRest o.targets old.kernel new.kernel
  pub table : new.kernel.table ≡ old.kernel.table
  pub online : new.kernel.tree.online ≡ old.kernel.tree.online
  pub failures : new.kernel.failures ≡ old.kernel.failures
  pub made : o.order ≡ InTurn → writes new.kernel ≡ writes old.kernel + writes_to_come o.targets old.kernel
  pub few : writes new.kernel ≤ writes old.kernel + left_of o old.kernel
  pub machine : new.machine ≡ old.machine
  pub parent : new.parent ≡ old.parent
  pub containers : new.containers ≡ old.containers
  pub pool : new.pool ≡ old.pool
  pub phase : new.phase ≡ Settled
  pub ongoing : new.ongoing ≡ None
  pub last : new.last ≡ old.last

-- and one of which a write failed
pub record Breaks (o : Ongoing) (fault : KernelFault) (old new : NodeState) : Type 0 where
  pub node : IsNode new
  pub broken : IsBroken o old.kernel new.kernel
  pub failed : fault ≡ Failed
  pub failures : new.kernel.failures ≡ old.kernel.failures + 1
  pub few : writes new.kernel ≤ writes old.kernel + left_of o old.kernel + 1
  pub machine : new.machine ≡ old.machine
  pub parent : new.parent ≡ old.parent
  pub containers : new.containers ≡ old.containers
  pub pool : new.pool ≡ old.pool
  pub phase : new.phase ≡ Unsettled
  pub ongoing : new.ongoing ≡ None
  pub last : new.last ≡ old.last

-- what steps leave of which the last answers this and ends the hand-over
record Ended (o : Ongoing) (old : NodeState) (r : Result Progress KernelFault) (phase : Phase) (new : NodeState) : Type 0 where
  node : IsNode new
  ongoing : IsOngoing new.kernel (owners_of old.containers) o
  rest : KeepsRest o.targets old.kernel new.kernel
  done : r ≡ Ok Done → HaveTargets new.kernel o.targets.entries
  failures : new.kernel.failures ≡ old.kernel.failures + rise r
  failed : IfErr r (λ fault. fault ≡ Failed)
  spends : writes new.kernel + left_of o new.kernel ≤ writes old.kernel + left_of o old.kernel + rise r
  exact : o.order ≡ InTurn → Spends o.targets old.kernel (rise r) new.kernel
  spent : o.order ≡ InTurn → r ≡ Ok Done → writes_to_come o.targets new.kernel ≡ 0
  is : new ≡ record old { kernel = new.kernel; phase = phase; ongoing = None }

module _ (law : OrdersLeave) (o : Ongoing) where
  -- by what the last of them left
  ends_as : (old new : NodeState) (r : Result Progress KernelFault) (phase : Phase) → StepLeft o.order old.machine o old.kernel r new.kernel
      → IsNode (record old { kernel = new.kernel; phase = phase; ongoing = None }) → IsOngoing new.kernel (owners_of old.containers) o
      → new ≡ record old { kernel = new.kernel; phase = phase; ongoing = None } → Ended o old r phase new
  ends_as old new r phase left node ongoing is = record {
    node = subst (λ (n : NodeState). IsNode n) (sym is) node;
    ongoing = ongoing;
    rest = left.rest;
    done = left.done;
    failures = left.counted;
    failed = left.failed;
    spends = left.spends;
    exact = left.exact;
    spent = left.spent;
    is = is;
  }

  last_step : (old new : NodeState) → IsNode old → old.ongoing ≡ Some o → Stepped old (Ok Done) Settled None new → Ended o old (Ok Done) Settled new
  last_step old new h was s =
      let steps = its_steps old o was new (Ok Done) Settled None s in
      ends_as old new (Ok Done) Settled (leaves law old h o was new.kernel (Ok Done) steps)
      (ended_node law old h o was new.kernel (Ok Done) steps Settled refl) (moved_on law old h o was new.kernel (Ok Done) steps).ongoing s.is

  last_miss : (fault : KernelFault) (old new : NodeState) → IsNode old → old.ongoing ≡ Some o → Misses old fault new → Ended o old (Err fault) Unsettled new
  last_miss fault old new h was s =
      let misses = its_misses old o was fault new s in
      ends_as old new (Err fault) Unsettled (missed law old h o was fault new.kernel misses)
      (missed_node law old h o was fault new.kernel misses) (missed_on law old h o was fault new.kernel misses).ongoing s.is

  module _ (r : Result Progress KernelFault) (phase : Phase) where
    -- one write more before them
    earlier : (old mid new : NodeState) → IsNode old → old.ongoing ≡ Some o → Writes old mid → Ended o mid r phase new → Ended o old r phase new
    earlier old mid new h was s e =
        let left = wrote law old h o was mid.kernel (its_writes old o was mid s) in
        let first : mid.kernel.failures ≡ old.kernel.failures = left.counted in
        let later : new.kernel.failures ≡ mid.kernel.failures + rise r = e.failures in
        let one : writes mid.kernel + left_of o mid.kernel ≤ writes old.kernel + left_of o old.kernel = left.spends in
        let others : writes new.kernel + left_of o new.kernel ≤ writes mid.kernel + left_of o mid.kernel + rise r = e.spends in
        record {
          node = e.node;
          ongoing = subst (λ (n : NodeState). IsOngoing new.kernel (owners_of n.containers) o) s.is e.ongoing;
          rest = rest_then o.targets old.kernel mid.kernel new.kernel left.rest e.rest;
          done = e.done;
          failures = omega (arith, first, later);
          failed = e.failed;
          spends = omega (arith, one, others);
          exact = λ is.
              let this : Spends o.targets old.kernel 0 mid.kernel = left.exact is in
              let those : Spends o.targets mid.kernel (rise r) new.kernel = e.exact is in
              omega (arith, this, those);
          spent = e.spent;
          is = e.is ∙ ap (λ (n : NodeState). record n { kernel = new.kernel; phase = phase; ongoing = None }) s.is;
        }

    -- where the last of them ends it
    module _ (Last : NodeState → NodeState → Type 0)
        (last : (old new : NodeState) → IsNode old → old.ongoing ≡ Some o → Last old new → Ended o old r phase new) where
      all_writes : (count : ℕ) (old mid new : NodeState) → IsNode old → old.ongoing ≡ Some o → WritesMany count old mid → Last mid new → Ended o old r phase new
      all_writes zero old mid new h was more s = last old new h was (subst (λ (n : NodeState). Last n new) more s)
      all_writes (suc count) old mid new h was more s =
          let node = subst (λ (n : NodeState). IsNode n) (sym more.1.is) (wrote_node law old h o was more.0.kernel (its_writes old o was more.0 more.1)) in
          earlier old more.0 new h was more.1 (all_writes count more.0 mid new node (ap (λ (n : NodeState). n.ongoing) more.1.is ∙ was) more.2 s)

-- the writes of the open hand-over that are made at once, as those of the node
module _ (o : Ongoing) where
  one_of : (old : NodeState) (k : KernelState) → old.ongoing ≡ Some o → (order : Order) → o.order ≡ order → WritesBy order old.machine o old.kernel k
      → Writes old (record old { kernel = k })
  one_of old k was order is s = record {
    handover = o;
    was = was;
    writes = subst (λ (x : Order). WritesBy x old.machine o old.kernel k) (sym is) s;
    is = refl;
  }

  -- what ends them
  abbrev EndsBy : Order → NodeState → KernelState → Result (Unit {0}) KernelFault → Type 0
  EndsBy order old k (Ok _) = StepsBy order old.machine o old.kernel (Ok Done) k
  EndsBy order old k (Err fault) = MissesBy order old.machine o old.kernel fault k

  end_of : (old : NodeState) (k : KernelState) (r : Result (Unit {0}) KernelFault) → old.ongoing ≡ Some o → EndsBy o.order old k r
      → Ends old r (record old { kernel = k; phase = phase_after r; ongoing = None })
  end_of old k (Ok _) was s = record { handover = o; was = was; steps = s; is = refl }
  end_of old k (Err fault) was s = record { handover = o; was = was; misses = s; is = refl }

  module _ (in_turn : o.order ≡ InTurn) where
    turns_of : (count : ℕ) (old : NodeState) (k : KernelState) → old.ongoing ≡ Some o → turn.StepsMore o.targets count old.kernel k
        → WritesMany count old (record old { kernel = k })
    turns_of zero old k was same = ap (λ (x : KernelState). record old { kernel = x }) same
    turns_of (suc count) old k was (mid, step, more) =
        (record old { kernel = mid }, one_of old mid was InTurn in_turn step, turns_of count (record old { kernel = mid }) k was more)

    turn_end : (old : NodeState) (last k : KernelState) (r : Result (Unit {0}) KernelFault) → Steps o.targets last (last_answer r) k
        → EndsBy InTurn (record old { kernel = last }) k r
    turn_end old last k (Ok _) s = s
    turn_end old last k (Err fault) s = s

    all_in_turn : (old : NodeState) (k : KernelState) (r : Result (Unit {0}) KernelFault) → old.ongoing ≡ Some o → turn.Finishes o.targets old.kernel r k
        → Goes old r (record old { kernel = k; phase = phase_after r; ongoing = None })
    all_in_turn old k r was f = record {
      count = f.steps;
      mid = record old { kernel = f.mid };
      writes = turns_of f.steps old f.mid was f.more;
      ends = end_of (record old { kernel = f.mid }) k r was (subst (λ (x : Order). EndsBy x (record old { kernel = f.mid }) k r) (sym in_turn) (turn_end old f.mid k r f.ends));
    }

  none_if : (w : Option Write) → is_none w ≡ true → w ≡ None
  none_if None is = refl
  none_if (Some w) is = absurd (false≢true is)

  -- the step that ends it writes nothing; or one of the writes fails
  direct_end : (old : NodeState) (last k : KernelState) (r : Result (Unit {0}) KernelFault) → StepsFollow (directed_of o) (least_cores old.machine) last
      → EndsAt (directed_of o) (least_cores old.machine) last r k → EndsBy Directly (record old { kernel = last }) k r
  direct_end old last k (Ok _) s (same, none) =
      let least = least_cores old.machine in
      let rests : due_directly (directed_of o) least last ≡ None = none_if (due_directly (directed_of o) least last) (s.none none) in
      (same ∙ ap (written last) (sym rests), sym (ap (λ (x : KernelState). progress_of (due_directly (directed_of o) least x)) same ∙ ap progress_of rests))
  direct_end old last k (Err fault) s ends = ends

  module _ (directly : o.order ≡ Directly) where
    directly_of : (ws : List Write) (old : NodeState) → old.ongoing ≡ Some o → Follow (MayFollow (directed_of o) (least_cores old.machine)) old.kernel ws
        → WritesMany (length ws) old (record old { kernel = after old.kernel ws })
    directly_of [] old was follow = refl
    directly_of (w ∷ later) old was follow =
        let mid = written old.kernel (Some w) in
        (record old { kernel = mid }, one_of old mid was Directly directly (w, follow.0, refl), directly_of later (record old { kernel = mid }) was follow.1)

    all_directly : (old : NodeState) (k : KernelState) (r : Result (Unit {0}) KernelFault) → old.ongoing ≡ Some o → IsOpen o.targets old.kernel
        → Serves (directed_of o) (least_cores old.machine) → FinishesDirectly (directed_of o) (least_cores old.machine) old.kernel r k
        → Goes old r (record old { kernel = k; phase = phase_after r; ongoing = None })
    all_directly old k r was opened serves f =
        let d = directed_of o in
        let least = least_cores old.machine in
        let last = after old.kernel f.writes in
        let follows : StepsFollow d least last =
        each_step_follows d least last opened.handover serves (last_placed d opened.handover least serves old.kernel k opened.placed r f) in
        record {
          count = length f.writes;
          mid = record old { kernel = last };
          writes = directly_of f.writes old was f.follow;
          ends = end_of (record old { kernel = last }) k r was
              (subst (λ (x : Order). EndsBy x (record old { kernel = last }) k r) (sym directly) (direct_end old last k r follows f.ends));
        }

  all_of : (old : NodeState) (k : KernelState) (r : Result (Unit {0}) KernelFault) → old.ongoing ≡ Some o → IsOpen o.targets old.kernel
      → Serves (directed_of o) (least_cores old.machine) → (order : Order) → o.order ≡ order → FinishesBy order old.machine o old.kernel r k
      → Goes old r (record old { kernel = k; phase = phase_after r; ongoing = None })
  all_of old k r was opened serves InTurn is f = all_in_turn is old k r was f
  all_of old k r was opened serves Directly is f = all_directly is old k r was opened serves f

-- so it is of a hand-over of a node
pub goes_of : (law : OrdersLeave) (old : NodeState) → IsNode old → (r : Result (Unit {0}) KernelFault) (new : NodeState) → Finishes old r new → Goes old r new
goes_of law old h r new f =
    subst (λ (n : NodeState). Goes old r n) (sym f.is)
    (all_of f.handover old new.kernel r f.was (open_now law old h f.handover f.was) (served_now law old h f.handover f.was) f.handover.order refl f.makes)

module _ (law : OrdersLeave) (o : Ongoing) where
  pub settles : (old new : NodeState) → IsNode old → old.ongoing ≡ Some o → Finishes old (Ok tt) new → Settles o old new
  settles old new h was finishes =
      let f = goes_of law old h (Ok tt) new finishes in
      let e = all_writes law o (Ok Done) Settled (λ x y. Stepped x (Ok Done) Settled None y) (last_step law o) f.count old f.mid new h was f.writes f.ends in
      let failures : new.kernel.failures ≡ old.kernel.failures + 0 = e.failures in
      let spends : writes new.kernel + left_of o new.kernel ≤ writes old.kernel + left_of o old.kernel + 0 = e.spends in
      record {
        node = e.node;
        targets = e.done refl;
        rest = e.rest;
        table = e.rest.table;
        online = e.rest.online;
        failures = omega (arith, failures);
        made = λ is.
            let exact : Spends o.targets old.kernel 0 new.kernel = e.exact is in
            let none : writes_to_come o.targets new.kernel ≡ 0 = e.spent is refl in
            omega (arith, exact, none);
        few = omega (arith, spends);
        machine = ap (λ (n : NodeState). n.machine) e.is;
        parent = ap (λ (n : NodeState). n.parent) e.is;
        containers = ap (λ (n : NodeState). n.containers) e.is;
        pool = ap (λ (n : NodeState). n.pool) e.is;
        phase = ap (λ (n : NodeState). n.phase) e.is;
        ongoing = ap (λ (n : NodeState). n.ongoing) e.is;
        last = ap (λ (n : NodeState). n.last) e.is;
      }

  pub breaks : (fault : KernelFault) (old new : NodeState) → IsNode old → old.ongoing ≡ Some o → Finishes old (Err fault) new → Breaks o fault old new
  breaks fault old new h was finishes =
      let f = goes_of law old h (Err fault) new finishes in
      let e = all_writes law o (Err fault) Unsettled (λ x y. Misses x fault y) (last_miss law o fault) f.count old f.mid new h was f.writes f.ends in
      let failed : fault ≡ Failed = e.failed in
      let failures : new.kernel.failures ≡ old.kernel.failures + 1 = e.failures ∙ ap (λ x. old.kernel.failures + rise {A = Progress} (Err x)) failed in
      record {
        node = e.node;
        broken = record { since = e.ongoing.since; rest = e.rest };
        failed = failed;
        failures = failures;
        few = (let spends : writes new.kernel + left_of o new.kernel ≤ writes old.kernel + left_of o old.kernel + 1 =
            subst (λ n. writes new.kernel + left_of o new.kernel ≤ writes old.kernel + left_of o old.kernel + n) (ap (λ x. rise {A = Progress} (Err x)) failed) e.spends in
            omega (arith, spends));
        machine = ap (λ (n : NodeState). n.machine) e.is;
        parent = ap (λ (n : NodeState). n.parent) e.is;
        containers = ap (λ (n : NodeState). n.containers) e.is;
        pool = ap (λ (n : NodeState). n.pool) e.is;
        phase = ap (λ (n : NodeState). n.phase) e.is;
        ongoing = ap (λ (n : NodeState). n.ongoing) e.is;
        last = ap (λ (n : NodeState). n.last) e.is;
      }

-- the same of the node as the program keeps it
module _ (law : OrdersLeave) (n : NodeState) (h : IsNode n) (o : Ongoing) (was : n.ongoing ≡ Some o) (k : KernelState) (r : Result (Unit {0}) KernelFault)
    (f : FinishesBy o.order n.machine o n.kernel r k) (x : Option Ongoing) (none : x ≡ None) where
  pub finished : (now : NodeState) → n ≡ now → Finishes now r (record n { kernel = k; phase = phase_after r; ongoing = x })
  finished now is = subst (λ (m : NodeState). Finishes m r (record n { kernel = k; phase = phase_after r; ongoing = x })) is (record {
    handover = o;
    was = was;
    makes = f;
    is = ap (λ (y : Option Ongoing). record n { kernel = k; phase = phase_after r; ongoing = y }) none;
  })

  node_after : (a : Result (Unit {0}) KernelFault) (new : NodeState) → Finishes n a new → IsNode new
  node_after (Ok _) new g = (settles law o n new h was g).node
  node_after (Err fault) new g = (breaks law o fault n new h was g).node

  pub finished_node : IsNode (record n { kernel = k; phase = phase_after r; ongoing = x })
  finished_node = node_after r (record n { kernel = k; phase = phase_after r; ongoing = x }) (finished n refl)

-- a hand-over that is underway is there
pub none_is_not_underway : (n : NodeState) → IsNode n → n.ongoing ≡ None → is_underway n.phase ≡ true → ⊥
none_is_not_underway n h none underway = false≢true (sym (subst (Stands n.kernel (owners_of n.containers) (is_underway n.phase)) none h.stands) ∙ underway)

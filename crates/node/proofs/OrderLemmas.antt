-- What a step of a hand-over leaves, in either order.
use Rattle.std.proofs.Common.{◌≡◌, inl, inr, ℕ, ◌+◌, ◌*◌, ◌≤◌, length, true, false, cond, [], ◌∷◌, ◌++◌, refl, sym, ap, ◌∙◌, subst, arith}
use Rattle.std.proofs.lemmas.Bool.{false≢true}
use Rattle.std.specs.Prelude.{◌⊎◌, find, Option, Some, None, is_none, is_some, Result, Ok, Err, IfErr}
use Rattle.std.specs.List.{AllByRecursion, AllZip}
use Rattle.std.specs.FinSet as set
use Rattle.cpu_set.specs.Ids.{Ids, is_empty}
use Rattle.cpu_set.specs.Members.{InRange}
use Rattle.faults.specs.declared.OrMemory.{OrMemory}
use Rattle.kernel_model.specs.declared.KernelFault.{KernelFault}
use Rattle.kernel_model.specs.declared.KernelFault.TheVariants.{Failed}
use Rattle.kernel_model.specs.declared.Call.{Call}
use Rattle.kernel_model.specs.declared.Reply.{Reply}
use Rattle.kernel_model.specs.KernelState.{KernelState, writes}
use Rattle.kernel_model.specs.Cases.{rise}
use Rattle.kernel_model.specs.Laws.{StepKeeps}
use Rattle.kernel_model.specs.KernelLemmas.{itself_alike, keeps_itself, whatever_is_told}
use Rattle.kernel_model.specs.Runs as kernel
use Rattle.machine.specs.Layout.{Layout}
use Rattle.machine.specs.IsSound.{IsSound}
use Rattle.apply_plan.specs.declared.Entry.{Entry}
use Rattle.apply_plan.specs.declared.Progress.{Progress}
use Rattle.apply_plan.specs.declared.Progress.TheVariants.{More, Done}
use Rattle.apply_plan.specs.declared.scan.Write.{Write}
use Rattle.apply_plan.specs.Holders.{IsSafe}
use Rattle.apply_plan.specs.Kept.{kept}
use Rattle.apply_plan.specs.KeptLemmas.{kept_target, kept_again}
use Rattle.apply_plan.specs.Targets.{Targets, holders_of, IsHandover, ArePlaced}
use Rattle.apply_plan.specs.DueLemmas.{nothing_is_due}
use Rattle.apply_plan.specs.DueWrite.{held, must_move, due, written, asks_for, missed, progress_of, Steps, writes_to_come, HaveTargets, IsBetween, Between, Spends}
use Rattle.apply_plan.specs.Leaves.{KeepsRest}
use Rattle.apply_plan.specs.ListLemmas.{none_found}
use Rattle.apply_plan.specs.OneStep.{StepLeaves, StepsLeave}
use Rattle.apply_plan.specs.Runs.{IsOpen, Called, LeavesEntries}
use Rattle.apply_plan.specs.RunLemmas.{steps_leave, ends_within}
use Rattle.apply_plan.specs.HandoverLemmas.{at_most_two}
use Rattle.apply_plan.specs.MayWrite.{OnWay, left_directly}
use Rattle.apply_plan.specs.Directed.{Directed, allowed_of, Least, Serves}
use Rattle.apply_plan.specs.OnWay.{AreOnWay}
use Rattle.apply_plan.specs.DirectWrite.{due_directly, StepsDirectly}
use Rattle.apply_plan.specs.DirectStepLemmas.{due_if_moves}
use Rattle.apply_plan.specs.DirectLemmas.{few_left}
use Rattle.apply_plan.specs.DirectOneStep.{StepLeavesDirectly, DirectStepsLeave}
use Rattle.apply_plan.specs.DirectOneStepLemmas.{direct_steps_leave}
use Rattle.apply_plan.specs.DirectRuns as direct
use Rattle.apply_plan.specs.DirectRunLemmas.{ends_directly, missed_kernel}
use Rattle.apply_plan.specs.KernelFactLemmas.{missed_makes}
use Rattle.apply_plan.specs.SqueezeLemmas.{none_squeezed}
use Rattle.apply_plan.specs.Squeezes.{SqueezesOnlyStuck}
use Rattle.direct_finish.specs.FinishesDirectly.{MayFollow}
use Rattle.direct_finish.specs.FollowersLeave.{FollowerLeaves}
use Rattle.direct_finish.specs.FollowerLemmas.{followers_leave, each_step_follows}
use Rattle.node.specs.declared.order.Order.{Order}
use Rattle.node.specs.declared.order.Order.TheVariants.{InTurn, Directly}
use Rattle.node.specs.NodeState.{Ongoing}
use Rattle.node.specs.Ongoing.{IsSince, IsOnWay, AreSince}
use Rattle.node.specs.LeastCores.{least_cores}
use Rattle.node.specs.Orders.{directed_of, StepsBy, WritesBy, MissesBy, left_by, FallsBy, made_by}
use Rattle.node.proofs.ListLemmas.{all_of, all_map2, zip_map}
use Rattle.node.proofs.LeastLemmas.{least_is}

-- what a step in this order leaves. The hand-over is still open, what was safe is safe, and nothing changed but the entries' sets
-- and the kernel's counts.
pub record StepLeft (order : Order) (m : Layout) (o : Ongoing) (old : KernelState) (r : Result Progress KernelFault) (new : KernelState) : Type 0 where
  pub open_still : IsOpen o.targets new
  pub safe : IsSafe old o.targets.reserved (holders_of o.targets.entries) → IsSafe new o.targets.reserved (holders_of o.targets.entries)
  pub rest : KeepsRest o.targets old new
  pub done : r ≡ Ok Done → HaveTargets new o.targets.entries
  pub falls : r ≡ Ok More → FallsBy order o.targets old new
  pub fewer : r ≡ Ok More → left_by order o.targets new + 1 ≤ left_by order o.targets old
  pub more : r ≡ Ok More → 1 ≤ left_by order o.targets new
  pub since : o.targets.reserved ≡ old.reserved → AreSince order old o → AreSince order new o
  pub counted : new.failures ≡ old.failures + rise r
  pub failed : IfErr r (λ fault. fault ≡ Failed)
  pub made : writes new ≡ writes old + made_by order m o old
  pub spends : writes new + left_by order o.targets new ≤ writes old + left_by order o.targets old + rise r
  pub exact : order ≡ InTurn → Spends o.targets old (rise r) new
  pub spent : order ≡ InTurn → r ≡ Ok Done → writes_to_come o.targets new ≡ 0
  pub squeezes : order ≡ Directly → SqueezesOnlyStuck (directed_of o) (least_cores m) old new
  pub way : order ≡ Directly → AreOnWay (directed_of o) old new
  pub kernel : StepKeeps old new

-- what one of the writes leaves that are made all at once
pub record WriteLeft (order : Order) (m : Layout) (o : Ongoing) (old new : KernelState) : Type 0 where
  pub safe : IsSafe old o.targets.reserved (holders_of o.targets.entries) → IsSafe new o.targets.reserved (holders_of o.targets.entries)
  pub rest : KeepsRest o.targets old new
  pub fewer : left_by order o.targets new + 1 ≤ left_by order o.targets old
  pub since : o.targets.reserved ≡ old.reserved → AreSince order old o → AreSince order new o
  pub counted : new.failures ≡ old.failures
  pub spends : writes new + left_by order o.targets new ≤ writes old + left_by order o.targets old
  pub exact : order ≡ InTurn → Spends o.targets old 0 new
  pub squeezes : order ≡ Directly → SqueezesOnlyStuck (directed_of o) (least_cores m) old new
  pub way : order ≡ Directly → AreOnWay (directed_of o) old new
  pub kernel : StepKeeps old new

-- each step leaves this, and each of the writes; one that fails leaves what a step does that fails
pub record OrdersLeave : Type 0 where
  pub step : (order : Order) (m : Layout) (o : Ongoing) (old : KernelState) (r : Result Progress KernelFault) (new : KernelState) → IsSound m → AllByRecursion InRange o.allowed
      → IsOpen o.targets old → StepsBy order m o old r new → StepLeft order m o old r new
  pub write : (order : Order) (m : Layout) (o : Ongoing) (old new : KernelState) → IsSound m → AllByRecursion InRange o.allowed
      → IsOpen o.targets old → WritesBy order m o old new → WriteLeft order m o old new
  pub miss : (order : Order) (m : Layout) (o : Ongoing) (old : KernelState) (fault : KernelFault) (new : KernelState) → IsSound m → AllByRecursion InRange o.allowed
      → IsOpen o.targets old → MissesBy order m o old fault new → StepLeft order m o old (Err fault) new

-- a call of somebody else leaves no more to do
abbrev pub CallsLeave : Type 0
CallsLeave =
    (order : Order) (m : Layout) (o : Ongoing) (old new : KernelState) (c : Call) (r : Result Reply (OrMemory KernelFault)) → IsSound m → AllByRecursion InRange o.allowed
    → IsOpen o.targets old → LeavesEntries o.targets.entries c → kernel.Step old c r new → left_by order o.targets new ≤ left_by order o.targets old

-- at most two writes for each entry are left
abbrev pub FewBy : Type 0
FewBy = (order : Order) (h : Targets) (k : KernelState) → left_by order h k ≤ 2 * length h.entries

-- what a group requests since the hand-over began, where a step leaves it between that and its target
module _ (old new : KernelState) (reserved : Ids) (some : is_empty reserved ≡ false) (e : Entry) (found : Ids) (target : is_empty e.target ≡ false) where
  since_on : IsBetween reserved old new e → IsSince old reserved e found → IsSince new reserved e found
  since_on (inl x) (inl y) = inl (x ∙ y)
  since_on (inl x) (inr (inl y)) = inr (inl (x ∙ y))
  since_on (inl x) (inr (inr y)) = inr (inr (x ∙ y))
  since_on (inr (inl x)) (inl y) = inr (inl (x ∙ ap (kept reserved e.target) y))
  since_on (inr (inl x)) (inr (inl y)) = inr (inl (x ∙ ap (kept reserved e.target) y ∙ kept_again reserved e.target some found))
  since_on (inr (inl x)) (inr (inr y)) = inr (inr (x ∙ ap (kept reserved e.target) y ∙ kept_target reserved e.target target))
  since_on (inr (inr x)) s = inr (inr x)

-- and where it leaves it on its way
way_on : (old new : KernelState) (reserved allowed : Ids) (e : Entry) (found : Ids) → OnWay reserved allowed old e (held new e) → IsOnWay old reserved allowed e found
    → IsOnWay new reserved allowed e found
way_on old new reserved allowed e found step was = record {
  keeps = λ q in_found in_target. step.keeps q (was.keeps q in_found in_target) in_target;
  within = λ q x. by q (step.within q x);
} where
  by : (q : ℕ)
      → ((set.contains (held old e) q ≡ true) ⊎ (set.contains e.target q ≡ true) ⊎ (set.contains reserved q ≡ true) ⊎ (set.contains allowed q ≡ true))
      → ((set.contains found q ≡ true) ⊎ (set.contains e.target q ≡ true) ⊎ (set.contains reserved q ≡ true) ⊎ (set.contains allowed q ≡ true))
  by q (inl held_then) = was.within q held_then
  by q (inr other) = inr other

module _ (o : Ongoing) (old new : KernelState) (valid : IsHandover o.targets) (rest : KeepsRest o.targets old new) (reserve : o.targets.reserved ≡ old.reserved) where
  -- the reserved CPUs are the hand-over's
  still_reserved : o.targets.reserved ≡ new.reserved
  still_reserved = reserve ∙ sym rest.reserved

  since_turn : Between o.targets old new → AreSince InTurn old o → AreSince InTurn new o
  since_turn between since =
      subst (λ s. AllZip (IsSince new s) o.targets.entries o.requested_at_begin) still_reserved
      (zip_map (λ e. (is_empty e.target ≡ false) × IsBetween o.targets.reserved old new e) (IsSince old o.targets.reserved) (IsSince new o.targets.reserved)
      (λ e found p s. since_on old new o.targets.reserved valid.reserve e found p.0 p.1 s) o.targets.entries o.requested_at_begin
      (all_map2 (λ e. is_empty e.target ≡ false) (IsBetween o.targets.reserved old new) (λ e. (is_empty e.target ≡ false) × IsBetween o.targets.reserved old new e)
      (λ e t b. (t, b)) o.targets.entries valid.some between)
      (subst (λ s. AllZip (IsSince old s) o.targets.entries o.requested_at_begin) (sym reserve) since))

  since_directly : AllByRecursion (λ e. OnWay o.targets.reserved (allowed_of (directed_of o) e) old e (held new e)) o.targets.entries
      → AreSince Directly old o → AreSince Directly new o
  since_directly way since =
      subst (λ s. AllZip (λ e found. IsOnWay new s (allowed_of (directed_of o) e) e found) o.targets.entries o.requested_at_begin) still_reserved
      (zip_map (λ e. OnWay o.targets.reserved (allowed_of (directed_of o) e) old e (held new e))
      (λ e found. IsOnWay old o.targets.reserved (allowed_of (directed_of o) e) e found) (λ e found. IsOnWay new o.targets.reserved (allowed_of (directed_of o) e) e found)
      (λ e found w s. way_on old new o.targets.reserved (allowed_of (directed_of o) e) e found w s) o.targets.entries o.requested_at_begin way
      (subst (λ s. AllZip (λ e found. IsOnWay old s (allowed_of (directed_of o) e) e found) o.targets.entries o.requested_at_begin) (sym reserve) since))

-- at first each container is on its way
on_way_at_first : (o : Ongoing) (k : KernelState) → AreOnWay (directed_of o) k k
on_way_at_first o k =
    all_of (λ e. OnWay o.targets.reserved (allowed_of (directed_of o) e) k e (held k e)) (λ e. record { keeps = λ q h t. h; within = λ q h. inl h }) o.targets.entries

-- where a step answers that more are to come, one write is due
one_due : (w : Option Write) → More ≡ progress_of w → 1 ≤ cond (is_some w) 1 0
one_due (Some w) more = omega arith
one_due None more = absurd (let no : ⊥ = cc more in no)

module _ (m : Layout) (o : Ongoing) (old new : KernelState) where
  turn_failed : (r : Result Progress KernelFault) → Steps o.targets old r new → IfErr r (λ fault. fault ≡ Failed)
  turn_failed (Ok answer) s = tt
  turn_failed (Err fault) s = s.0

  turn_more : StepsLeave → IsOpen o.targets new → (r : Result Progress KernelFault) → Steps o.targets old r new → r ≡ Ok More → 1 ≤ writes_to_come o.targets new
  turn_more law opened (Err fault) s is = absurd (let x : ⊥ = cc is in x)
  turn_more law opened (Ok answer) s is =
      let next = written new (due o.targets new) in
      let lowers : writes_to_come o.targets new ≡ writes_to_come o.targets next + cond (is_some (due o.targets new)) 1 0 =
      (law o.targets new (Ok (progress_of (due o.targets next))) next opened (refl, refl)).lowers in
      let is_more : More ≡ answer = cc is in
      let one : 1 ≤ cond (is_some (due o.targets new)) 1 0 = one_due (due o.targets new) (is_more ∙ s.1) in
      omega (arith, lowers, one)

  in_turn : StepsLeave → IsOpen o.targets old → (r : Result Progress KernelFault) → Steps o.targets old r new → StepLeft InTurn m o old r new
  in_turn law opened r s =
      let left : StepLeaves o.targets old r new = law o.targets old r new opened s in
      let spends : Spends o.targets old (rise r) new = left.spends in
      record {
        open_still = left.open_still;
        safe = left.safe;
        rest = left.rest;
        done = left.done;
        falls = left.falls;
        fewer = λ is. (let falls : writes_to_come o.targets old ≡ writes_to_come o.targets new + 1 = left.falls is in omega (arith, falls));
        more = turn_more law left.open_still r s;
        since = λ reserve. since_turn o old new opened.handover left.rest reserve
            (left.between old (all_of (IsBetween o.targets.reserved old old) (λ e. inl refl) o.targets.entries));
        counted = left.counted;
        failed = turn_failed r s;
        made = left.made;
        spends = omega (arith, spends);
        exact = λ _. spends;
        spent = λ _. left.spent;
        squeezes = λ is. absurd (let x : ⊥ = cc is in x);
        way = λ is. absurd (let x : ⊥ = cc is in x);
        kernel = left.kernel;
      }

  abbrev d : Directed
  d = directed_of o

  abbrev least : Least
  least = least_cores m

  direct_failed : (r : Result Progress KernelFault) → StepsDirectly d least old r new → IfErr r (λ fault. fault ≡ Failed)
  direct_failed (Ok answer) s = tt
  direct_failed (Err fault) s = s.0

  direct_more : DirectStepsLeave → Serves d least → IsOpen o.targets new → (r : Result Progress KernelFault) → StepsDirectly d least old r new → r ≡ Ok More
      → 1 ≤ left_directly o.targets new
  direct_more law serves opened (Err fault) s is = absurd (let x : ⊥ = cc is in x)
  direct_more law serves opened (Ok answer) s is =
      let next = written new (due_directly d least new) in
      let lowers : left_directly o.targets next + cond (is_some (due_directly d least new)) 1 0 ≤ left_directly o.targets new =
      (law d least new (Ok (progress_of (due_directly d least next))) next serves opened (refl, refl)).lowers in
      let is_more : More ≡ answer = cc is in
      let one : 1 ≤ cond (is_some (due_directly d least new)) 1 0 = one_due (due_directly d least new) (is_more ∙ s.1) in
      omega (arith, lowers, one)

  directly : DirectStepsLeave → Serves d least → IsOpen o.targets old → (r : Result Progress KernelFault) → StepsDirectly d least old r new
      → StepLeft Directly m o old r new
  directly law serves opened r s =
      let left : StepLeavesDirectly d least old r new = law d least old r new serves opened s in
      record {
        open_still = left.open_still;
        safe = left.safe;
        rest = left.rest;
        done = left.done;
        falls = left.falls;
        fewer = left.falls;
        more = direct_more law serves left.open_still r s;
        since = λ reserve. since_directly o old new opened.handover left.rest reserve
            (left.on_way old (on_way_at_first o old));
        counted = left.counted;
        failed = direct_failed r s;
        made = left.made;
        spends = left.spends;
        exact = λ is. absurd (let x : ⊥ = cc is in x);
        spent = λ is. absurd (let x : ⊥ = cc is in x);
        squeezes = λ _. left.squeezes;
        way = λ _. left.on_way old (on_way_at_first o old);
        kernel = left.kernel;
      }

-- a machine's places serve a hand-over
pub serves_it : (m : Layout) (o : Ongoing) → IsSound m → AllByRecursion InRange o.allowed → Serves (directed_of o) (least_cores m)
serves_it m o sound ranged = record { told = least_is m sound; ranged = ranged }

-- each of the writes of the direct order
module _ (m : Layout) (o : Ongoing) (old : KernelState) (w : Write) where
  abbrev next : KernelState
  next = written old (Some w)

  write_directly : IsOpen o.targets old → FollowerLeaves (directed_of o) (least_cores m) old next → WriteLeft Directly m o old next
  write_directly opened left = record {
    safe = left.safe;
    rest = left.rest;
    fewer = left.fewer;
    since = λ reserve. since_directly o old next opened.handover left.rest reserve
        (left.on_way old (on_way_at_first o old));
    counted = refl;
    spends = (let fewer : left_directly o.targets next + 1 ≤ left_directly o.targets old = left.fewer in
        let one : writes next ≡ writes old + 1 = omega arith in
        omega (arith, fewer, one));
    exact = λ is. absurd (let x : ⊥ = cc is in x);
    squeezes = λ _. left.squeezes;
    way = λ _. left.on_way old (on_way_at_first o old);
    kernel = left.kernel;
  }

-- and one of them that fails
module _ (m : Layout) (o : Ongoing) (old : KernelState) (w : Write) (serves : Serves (directed_of o) (least_cores m)) (opened : IsOpen o.targets old) where
  abbrev lost : KernelState
  lost = missed (Some w) old

  miss_directly : is_some (due_directly (directed_of o) (least_cores m) old) ≡ true → StepLeft Directly m o old (Err Failed) lost
  miss_directly some =
      let d = directed_of o in
      let least = least_cores m in
      let rest : KeepsRest o.targets old lost = record {
        table = refl;
        present = refl;
        reserved = refl;
        online = refl;
        nodes = refl;
        alike = itself_alike old.tree;
        mems = λ g. refl;
        others = λ g o. refl;
      } in
      let way : AreOnWay d old lost =
      all_of (λ e. OnWay o.targets.reserved (allowed_of d e) old e (held lost e)) (λ e. record { keeps = λ q h t. h; within = λ q h. inl h }) o.targets.entries in
      let one : writes lost ≡ writes old + 1 = missed_makes (Some w) old in
      record {
        open_still = missed_kernel d least serves old lost opened (Some w);
        safe = λ s. record { apart = s.apart; some = s.some };
        rest = rest;
        done = λ is. absurd (let x : ⊥ = cc is in x);
        falls = λ is. absurd (let x : ⊥ = cc is in x);
        fewer = λ is. absurd (let x : ⊥ = cc is in x);
        more = λ is. absurd (let x : ⊥ = cc is in x);
        since = λ reserve. since_directly o old lost opened.handover rest reserve
            way;
        counted = refl;
        failed = refl;
        made = one ∙ ap (λ b. writes old + cond b 1 0) (sym some);
        spends = omega (arith, one);
        exact = λ is. absurd (let x : ⊥ = cc is in x);
        spent = λ is. absurd (let x : ⊥ = cc is in x);
        squeezes = λ _. none_squeezed d opened.handover least serves old opened.placed lost (λ a. refl);
        way = λ _. way;
        kernel = whatever_is_told old old (old.failures + 1) (asks_for (Some w) (Err Failed) ++ old.trace) (keeps_itself old opened.well_formed);
      }

-- a step in turn after which more are to come is one of its writes
write_in_turn : (m : Layout) (o : Ongoing) (old new : KernelState) → StepLeft InTurn m o old (Ok More) new → WriteLeft InTurn m o old new
write_in_turn m o old new left =
    let counted : new.failures ≡ old.failures + 0 = left.counted in
    let spends : writes new + left_by InTurn o.targets new ≤ writes old + left_by InTurn o.targets old + 0 = left.spends in
    record {
      safe = left.safe;
      rest = left.rest;
      fewer = left.fewer refl;
      since = left.since;
      counted = omega (arith, counted);
      spends = omega (arith, spends);
      exact = left.exact;
      squeezes = left.squeezes;
      way = left.way;
      kernel = left.kernel;
    }

each_step : (order : Order) (m : Layout) (o : Ongoing) (old : KernelState) (r : Result Progress KernelFault) (new : KernelState) → IsSound m → AllByRecursion InRange o.allowed
    → IsOpen o.targets old → StepsBy order m o old r new → StepLeft order m o old r new
each_step InTurn m o old r new sound ranged opened s = in_turn m o old new steps_leave opened r s
each_step Directly m o old r new sound ranged opened s = directly m o old new direct_steps_leave (serves_it m o sound ranged) opened r s

each_write : (order : Order) (m : Layout) (o : Ongoing) (old new : KernelState) → IsSound m → AllByRecursion InRange o.allowed
    → IsOpen o.targets old → WritesBy order m o old new → WriteLeft order m o old new
each_write InTurn m o old new sound ranged opened s = write_in_turn m o old new (in_turn m o old new steps_leave opened (Ok More) s)
each_write Directly m o old new sound ranged opened (w, follows, is) =
    subst (λ (k : KernelState). WriteLeft Directly m o old k) (sym is)
    (write_directly m o old w opened (followers_leave (directed_of o) (least_cores m) old w (serves_it m o sound ranged) opened follows))

each_miss : (order : Order) (m : Layout) (o : Ongoing) (old : KernelState) (fault : KernelFault) (new : KernelState) → IsSound m → AllByRecursion InRange o.allowed
    → IsOpen o.targets old → MissesBy order m o old fault new → StepLeft order m o old (Err fault) new
each_miss InTurn m o old fault new sound ranged opened s = in_turn m o old new steps_leave opened (Err fault) s
each_miss Directly m o old fault new sound ranged opened (failed, (w, follows, is)) =
    let serves = serves_it m o sound ranged in
    let some = (each_step_follows (directed_of o) (least_cores m) old opened.handover serves opened.placed).some w follows in
    subst (λ (f : KernelFault). StepLeft Directly m o old (Err f) new) (sym failed)
    (subst (λ (k : KernelState). StepLeft Directly m o old (Err Failed) k) (sym is) (miss_directly m o old w serves opened some))

pub both_leave : OrdersLeave
both_leave = record { step = each_step; write = each_write; miss = each_miss }

pub calls_leave : CallsLeave
calls_leave InTurn m o old new c r sound ranged opened apart step =
    let e : 0 + 0 + writes_to_come o.targets new ≤ writes_to_come o.targets old = ends_within o.targets old ((Called c r, new) ∷ []) opened ((apart, step), tt) in
    omega (arith, e)
calls_leave Directly m o old new c r sound ranged opened apart step =
    let e : 0 + 0 + left_directly o.targets new ≤ left_directly o.targets old =
    ends_directly (directed_of o) (least_cores m) old ((direct.Called c r, new) ∷ []) (serves_it m o sound ranged) opened ((apart, step), tt) in
    omega (arith, e)

pub few_by : FewBy
few_by InTurn h k = at_most_two h k
few_by Directly h k = few_left h k

-- where none must move, a step ends the hand-over and writes nothing
module _ (m : Layout) (o : Ongoing) (old : KernelState) (valid : IsHandover o.targets) (none : AllByRecursion (λ e. must_move old e ≡ false) o.targets.entries) where
  abbrev pub Rests : Result Progress KernelFault → KernelState → Type 0
  Rests r new = (r ≡ Ok Done) × (new ≡ old)

  none_moves : find (must_move old) o.targets.entries ≡ None
  none_moves = none_found (must_move old) o.targets.entries none

  none_if : (w : Option Write) → is_none w ≡ true → w ≡ None
  none_if None is = refl
  none_if (Some w) is = absurd (false≢true is)

  turn_none : due o.targets old ≡ None
  turn_none = nothing_is_due old o.targets.reserved o.targets.entries valid.some (ap is_none none_moves)

  turn_rests : (r : Result Progress KernelFault) (new : KernelState) → Steps o.targets old r new → Rests r new
  turn_rests (Ok answer) new s =
      let same : new ≡ old = s.0 ∙ ap (written old) turn_none in
      (ap (λ (x : Progress). Ok x) (s.1 ∙ ap (λ k. progress_of (due o.targets k)) same ∙ ap progress_of turn_none), same)
  turn_rests (Err fault) new s = absurd (false≢true (sym (ap is_some turn_none) ∙ s.2))

  module _ (serves : Serves (directed_of o) (least_cores m)) (placed : ArePlaced old o.targets.entries) where
    direct_none : due_directly (directed_of o) (least_cores m) old ≡ None
    direct_none = none_if (due_directly (directed_of o) (least_cores m) old) (due_if_moves (directed_of o) valid (least_cores m) serves old placed ∙ ap is_none none_moves)

    direct_rests : (r : Result Progress KernelFault) (new : KernelState) → StepsDirectly (directed_of o) (least_cores m) old r new → Rests r new
    direct_rests (Ok answer) new s =
        let same : new ≡ old = s.0 ∙ ap (written old) direct_none in
        (ap (λ (x : Progress). Ok x) (s.1 ∙ ap (λ k. progress_of (due_directly (directed_of o) (least_cores m) k)) same ∙ ap progress_of direct_none), same)
    direct_rests (Err fault) new s = absurd (false≢true (sym (ap is_some direct_none) ∙ s.2))

    direct_holds : (w : Write) → MayFollow (directed_of o) (least_cores m) old w → ⊥
    direct_holds w follows =
        let some = (each_step_follows (directed_of o) (least_cores m) old valid serves placed).some w follows in
        false≢true (sym (ap is_some direct_none) ∙ some)

  pub it_rests : IsSound m → AllByRecursion InRange o.allowed → ArePlaced old o.targets.entries → (order : Order) (r : Result Progress KernelFault) (new : KernelState)
      → StepsBy order m o old r new → Rests r new
  it_rests sound ranged placed InTurn r new s = turn_rests r new s
  it_rests sound ranged placed Directly r new s = direct_rests (serves_it m o sound ranged) placed r new s

  pub none_misses : IsSound m → AllByRecursion InRange o.allowed → ArePlaced old o.targets.entries → (order : Order) (fault : KernelFault) (new : KernelState)
      → MissesBy order m o old fault new → ⊥
  none_misses sound ranged placed InTurn fault new s = let no : ⊥ = cc (turn_rests (Err fault) new s).0 in no
  none_misses sound ranged placed Directly fault new (failed, (w, follows, is)) = direct_holds (serves_it m o sound ranged) placed w follows

  pub none_writes : IsSound m → AllByRecursion InRange o.allowed → ArePlaced old o.targets.entries → (order : Order) (new : KernelState)
      → WritesBy order m o old new → ⊥
  none_writes sound ranged placed InTurn new s = let no : ⊥ = cc (turn_rests (Ok More) new s).0 in no
  none_writes sound ranged placed Directly new (w, follows, is) = direct_holds (serves_it m o sound ranged) placed w follows

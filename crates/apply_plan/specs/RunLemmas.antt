-- What whole runs of a hand-over leave, whatever happens between its steps.
use Rattle.std.proofs.Common.{◌≡◌, ◌+◌, ◌<◌, ◌≤◌, Bool, true, false, List, [], ◌∷◌, ◌++◌, refl, sym, ap, ◌∙◌, subst, arith, inl, inr}
use Rattle.std.proofs.lemmas.Bool.{false≢true}
use Rattle.std.specs.Prelude.{cond, Option, Some, None, is_some, IfSome, Result, Ok, Err}
use Rattle.std.specs.List.{AllByRecursion}
use Rattle.std.specs.FinSet as set
use Rattle.cpu_set.specs.Ids.{Ids, is_empty}
use Rattle.cpuset_tree.specs.Groups.{cpus_in, requested_cpus}
use Rattle.proctable.specs.Processes.{is_alive}
use Rattle.kernel_model.specs.declared.KernelFault.{KernelFault}
use Rattle.kernel_model.specs.KernelState.{KernelState}
use Rattle.kernel_model.specs.Cases.{rise}
use Rattle.kernel_model.specs.Laws.{StepKeeps}
use Rattle.apply_plan.specs.declared.entry.Entry.{Entry}
use Rattle.apply_plan.specs.declared.handover.Progress.{Progress}
use Rattle.apply_plan.specs.declared.handover.Progress.TheVariants.{More, Done}
use Rattle.apply_plan.specs.Holders.{AreApart, HasSome, IsSafe}
use Rattle.apply_plan.specs.Targets.{Targets, holder_of, holders_of, IsPlaced}
use Rattle.apply_plan.specs.DueWrite.{held, due, Steps, written, asks_for, missed, progress_of, writes_of, writes_to_come, IsBetween, Between, made_by_step, Spends}
use Rattle.apply_plan.specs.OneStep.{StepLeaves, StepsLeave}
use Rattle.apply_plan.specs.Runs.{Event, Stepped, Called, Happens, AllHappen, IsOpen, StaysSafe, StaysBetween, EndsWithin, writes_in, writes_of_event, last_of}
use Rattle.apply_plan.specs.ListLemmas.{all_map, all_map2, all_of, all_of_map, of_all_map, pairs_map, pairs_of_map, of_pairs_map, sum_le}
use Rattle.apply_plan.specs.WriteLemmas.{ApartAs}
use Rattle.apply_plan.specs.StepLemmas.{waits}
use Rattle.apply_plan.specs.EventLemmas.{IsCalm, calm, still_open}
use Rattle.apply_plan.specs.HandoverLemmas.{step_safe, step_lowers, step_between, step_done, step_counts, step_makes, step_spends, done_none, step_keeps}
use Rattle.apply_plan.specs.KernelFactLemmas.{placed_alike}
use Rattle.apply_plan.specs.declared.scan.Write.{Write}
use Rattle.kernel_model.specs.declared.KernelFault.TheVariants.{Failed}
use Rattle.kernel_model.specs.KernelLemmas.{each_case_keeps, keeps_itself, runs_keep, whatever_is_told}
use Rattle.kernel_model.specs.RefusalLemmas.{calls_are_free}
use Rattle.apply_plan.specs.DueLemmas.{due_is_placed}

module _ (h : Targets) (old new : KernelState) (all : AllByRecursion (IsCalm old new) h.entries) where
  same_held : (e : Entry) → IsCalm old new e → held new e ≡ held old e
  same_held e c = ap cpus_in c.group

  calm_apart : (a b : Entry) → IsCalm old new a → IsCalm old new b → ApartAs old h.reserved a b → ApartAs new h.reserved a b
  calm_apart a b ca cb apart =
      λ la lb pinned cpu ina inb.
      apart (ca.dies la) (cb.dies lb) pinned cpu (ap (λ s. set.contains s cpu) (sym (same_held a ca)) ∙ ina) (ap (λ s. set.contains s cpu) (sym (same_held b cb)) ∙ inb)

  pub calm_safe : IsSafe old h.reserved (holders_of h.entries) → IsSafe new h.reserved (holders_of h.entries)
  calm_safe safe = record {
    apart = pairs_of_map holder_of (AreApart new h.reserved (requested_cpus new.tree)) h.entries
        (pairs_map (IsCalm old new) (ApartAs old h.reserved) (ApartAs new h.reserved) calm_apart h.entries all
        (of_pairs_map holder_of (AreApart old h.reserved (requested_cpus old.tree)) h.entries safe.apart));
    some = all_of_map holder_of (HasSome new (requested_cpus new.tree)) h.entries
        (all_map2 (IsCalm old new) (λ a. HasSome old (requested_cpus old.tree) (holder_of a)) (λ a. HasSome new (requested_cpus new.tree) (holder_of a))
        (λ a c some live. ap is_empty (same_held a c) ∙ some (c.dies live)) h.entries all
        (of_all_map holder_of (HasSome old (requested_cpus old.tree)) h.entries safe.some));
  }

  fewer : (reserved : Ids) (l m : Bool) (held : Ids) (e : Entry) → (l ≡ true → m ≡ true) → waits reserved l held e ≤ waits reserved m held e
  fewer reserved true true held e dies = omega arith
  fewer reserved false m held e dies = omega arith
  fewer reserved true false held e dies = absurd (false≢true (dies refl))

  one_fewer : (e : Entry) → IsCalm old new e → writes_of new h.reserved e ≤ writes_of old h.reserved e
  one_fewer e c =
      subst (λ s. waits h.reserved (is_alive new.table e.pid) s e ≤ waits h.reserved (is_alive old.table e.pid) (held old e) e) (sym (same_held e c))
      (fewer h.reserved (is_alive new.table e.pid) (is_alive old.table e.pid) (held old e) e c.dies)

  pub calm_fewer : writes_to_come h new ≤ writes_to_come h old
  calm_fewer = sum_le (writes_of new h.reserved) (writes_of old h.reserved) h.entries (all_map (IsCalm old new) (λ e. writes_of new h.reserved e ≤ writes_of old h.reserved e) one_fewer h.entries all)

-- a step leaves a kernel, and a hand-over open
module _ (h : Targets) (old new : KernelState) (before : IsOpen h old) where
  written_kernel : (d : Option Write) → due h old ≡ d → StepKeeps old (written old d)
  written_kernel None is = runs_keep old old [] [] before.well_formed refl
  written_kernel (Some w) is =
      let placed = subst (λ d. IfSome d (λ v. IsPlaced old v.group)) is (due_is_placed old h.reserved h.entries before.placed) in
      (each_case_keeps old (written old (Some w)) before.well_formed).cpus w.group w.cpus (Ok tt) (((calls_are_free old).write w.group).1 (placed.there, placed.below), refl)

  missed_kernel : StepKeeps old (missed (due h old) old)
  missed_kernel = whatever_is_told old old (old.failures + 1) (asks_for (due h old) (Err Failed) ++ old.trace) (keeps_itself old before.well_formed)

  step_kernel : (r : Result Progress KernelFault) → Steps h old r new → StepKeeps old new
  step_kernel (Ok answer) s = subst (StepKeeps old) (sym s.0) (written_kernel (due h old) refl)
  step_kernel (Err fault) s = subst (StepKeeps old) (sym s.1) missed_kernel

  step_stays_open : (r : Result Progress KernelFault) → Steps h old r new → IsOpen h new
  step_stays_open r s =
      let keeps = step_keeps h before.handover old new before.placed r s in
      record {
        handover = before.handover;
        well_formed = (step_kernel r s).well_formed;
        placed = placed_alike old new h.entries keeps.alike before.placed;
        given = all_map (λ e. e.pid < old.table.next_pid) (λ e. e.pid < new.table.next_pid) (λ e g. subst (λ t. e.pid < t.next_pid) (sym keeps.table) g) h.entries before.given;
      }

  -- where more is due after a step, something was due before it
  more_was_due : (r : Result Progress KernelFault) → Steps h old r new → r ≡ Ok More → writes_to_come h old ≡ writes_to_come h new + 1
  more_was_due (Err fault) s is = absurd (let x : ⊥ = cc is in x)
  more_was_due (Ok answer) s is = by (due h old) refl where
    lowers : writes_to_come h old ≡ writes_to_come h new + cond (is_some (due h old)) 1 0
    lowers = step_lowers h before.handover old new before.placed (Ok answer) s

    by : (d : Option Write) → due h old ≡ d → writes_to_come h old ≡ writes_to_come h new + 1
    by (Some w) was = lowers ∙ ap (λ o. writes_to_come h new + cond (is_some o) 1 0) was
    by None was =
        let same : new ≡ old = s.0 ∙ ap (written old) was in
        let rests : progress_of (due h new) ≡ Done = ap (λ k. progress_of (due h k)) same ∙ ap progress_of was in
        let more : progress_of (due h new) ≡ More = sym s.1 ∙ cc is in
        absurd (let x : ⊥ = cc (rests, more) in x)

  step_leaves : (r : Result Progress KernelFault) → Steps h old r new → StepLeaves h old r new
  step_leaves r s =
      let after = step_stays_open r s in
      record {
        open_still = after;
        safe = step_safe h before.handover old new before.placed r s;
        rest = step_keeps h before.handover old new before.placed r s;
        done = step_done h before.handover old new before.placed r s after.placed;
        falls = more_was_due r s;
        lowers = step_lowers h before.handover old new before.placed r s;
        between = λ first. step_between h before.handover old new before.placed first r s;
        counted = step_counts h before.handover old new before.placed r s;
        made = step_makes h before.handover old new before.placed r s;
        spends = step_spends h before.handover old new before.placed r s;
        spent = done_none h old new r s;
        kernel = step_kernel r s;
      }

  pub event_stays_open : (x : Event) → Happens h old x new → IsOpen h new
  event_stays_open (Stepped r) happens = step_stays_open r happens
  event_stays_open (Called call r) happens = still_open h old new before call r happens.0 happens.1

  pub event_safe : (x : Event) → Happens h old x new → IsSafe old h.reserved (holders_of h.entries) → IsSafe new h.reserved (holders_of h.entries)
  event_safe (Stepped r) happens safe = step_safe h before.handover old new before.placed r happens safe
  event_safe (Called call r) happens safe = calm_safe h old new (calm h old new before call r happens.0 happens.1) safe

  pub event_lowers : (x : Event) → Happens h old x new → writes_of_event old x new + writes_to_come h new ≤ writes_to_come h old
  event_lowers (Stepped (Ok answer)) happens =
      let spends : Spends h old 0 new = step_spends h before.handover old new before.placed (Ok answer) happens in
      let e : writes_to_come h old ≡ writes_to_come h new + made_by_step h old = step_lowers h before.handover old new before.placed (Ok answer) happens in
      omega (arith, spends, e)
  event_lowers (Stepped (Err fault)) happens =
      let spends : Spends h old (rise {A = Progress} (Err fault)) new = step_spends h before.handover old new before.placed (Err fault) happens in
      let e : writes_to_come h old ≡ writes_to_come h new = step_lowers h before.handover old new before.placed (Err fault) happens in
      omega (arith, spends, e)
  event_lowers (Called call r) happens =
      let e : writes_to_come h new ≤ writes_to_come h old = calm_fewer h old new (calm h old new before call r happens.0 happens.1) in
      omega (arith, e)

-- what an entry holds is between where it is the same
between_alike : (h : Targets) (first old new : KernelState) (e : Entry) → held new e ≡ held old e → IsBetween h.reserved first old e → IsBetween h.reserved first new e
between_alike h first old new e same (inl x) = inl (same ∙ x)
between_alike h first old new e same (inr (inl x)) = inr (inl (same ∙ x))
between_alike h first old new e same (inr (inr x)) = inr (inr (same ∙ x))

event_between : (h : Targets) (first old new : KernelState) → IsOpen h old → (x : Event) → Happens h old x new → Between h first old → Between h first new
event_between h first old new before (Stepped r) happens between = step_between h before.handover old new before.placed first r happens between
event_between h first old new before (Called call r) happens between =
    let all = calm h old new before call r happens.0 happens.1 in
    all_map2 (IsCalm old new) (IsBetween h.reserved first old) (IsBetween h.reserved first new)
    (λ e c b. between_alike h first old new e (same_held h old new all e c) b) h.entries all between

between_on : (h : Targets) (first k : KernelState) (run : List (Event × KernelState)) → IsOpen h k → AllHappen h k run → Between h first k
    → AllByRecursion (λ x. Between h first x.1) run
between_on h first k [] before happen between = tt
between_on h first k (x ∷ later) before happen between =
    let after = event_between h first k x.1 before x.0 happen.0 between in
    (after, between_on h first x.1 later (event_stays_open h k x.1 before x.0 happen.0) happen.1 after)

pub steps_leave : StepsLeave
steps_leave h old r new before s = step_leaves h old new before r s

pub stays_between : StaysBetween
stays_between h k run before happen = between_on h k k run before happen (all_of (IsBetween h.reserved k k) (λ e. inl refl) h.entries)

pub stays_safe : StaysSafe
stays_safe h k [] before safe happen = tt
stays_safe h k (x ∷ later) before safe happen =
    let after = event_safe h k x.1 before x.0 happen.0 safe in
    (after, stays_safe h x.1 later (event_stays_open h k x.1 before x.0 happen.0) after happen.1)

pub ends_within : EndsWithin
ends_within h k [] before happen = omega arith
ends_within h k (x ∷ later) before happen =
    let first : writes_of_event k x.0 x.1 + writes_to_come h x.1 ≤ writes_to_come h k = event_lowers h k x.1 before x.0 happen.0 in
    let rest : writes_in x.1 later + writes_to_come h (last_of x.1 later) ≤ writes_to_come h x.1 =
    ends_within h x.1 later (event_stays_open h k x.1 before x.0 happen.0) happen.1 in
    omega (arith, first, rest)

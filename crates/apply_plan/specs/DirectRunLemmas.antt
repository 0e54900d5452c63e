-- What whole runs of a direct hand-over leave, whatever happens between its writes.
use Rattle.std.proofs.Common.{◌≡◌, ◌+◌, ◌≤◌, Bool, true, false, not, ◌&&◌, List, [], ◌∷◌, ◌++◌, refl, sym, ap, ◌∙◌, subst, arith, inl}
use Rattle.std.proofs.lemmas.Bool.{false≢true}
use Rattle.std.specs.Prelude.{cond, find, Option, Some, None, is_some, Ok, Err}
use Rattle.std.specs.List.{AllByRecursion}
use Rattle.std.specs.FinSet as set
use Rattle.cpu_set.specs.Ids.{Ids, is_same}
use Rattle.cpuset_tree.specs.Groups.{same_group, cpus_in}
use Rattle.proctable.specs.Processes.{is_alive}
use Rattle.kernel_model.specs.KernelState.{KernelState, writes}
use Rattle.kernel_model.specs.declared.KernelFault.{KernelFault}
use Rattle.kernel_model.specs.declared.KernelFault.TheVariants.{Failed}
use Rattle.kernel_model.specs.Cases.{rise}
use Rattle.kernel_model.specs.Laws.{StepKeeps}
use Rattle.kernel_model.specs.KernelLemmas.{each_case_keeps, itself_alike, keeps_itself, whatever_is_told}
use Rattle.kernel_model.specs.RefusalLemmas.{calls_are_free}
use Rattle.apply_plan.specs.declared.entry.Entry.{Entry}
use Rattle.apply_plan.specs.declared.scan.Write.{Write}
use Rattle.apply_plan.specs.declared.handover.Progress.{Progress}
use Rattle.apply_plan.specs.Holders.{IsSafe}
use Rattle.apply_plan.specs.Targets.{Targets, holders_of, IsPlaced}
use Rattle.apply_plan.specs.DueWrite.{held, must_move, written, asks_for, missed}
use Rattle.apply_plan.specs.ListLemmas.{all_map, all_map2, all_of, find_none, none_found, sum_le}
use Rattle.apply_plan.specs.KernelFactLemmas.{placed_alike, stands}
use Rattle.apply_plan.specs.WriteLemmas.{by_test}
use Rattle.apply_plan.specs.Runs.{IsOpen}
use Rattle.apply_plan.specs.EventLemmas.{IsCalm, calm, still_open}
use Rattle.apply_plan.specs.RunLemmas.{calm_safe}
use Rattle.apply_plan.specs.DirectWords.{has_own, lets_go, asks, holds_up, blocks}
use Rattle.apply_plan.specs.MayWrite.{OnWay, waits_for, left_directly}
use Rattle.apply_plan.specs.Directed.{Directed, allowed_of, Least, Serves}
use Rattle.apply_plan.specs.OnWay.{AreOnWay}
use Rattle.apply_plan.specs.DirectWrite.{due_directly, made_directly}
use Rattle.apply_plan.specs.DirectCaseLemmas.{Direct, direct_is, makes}
use Rattle.apply_plan.specs.DirectLemmas.{both, both_of, ask_parts, up_parts, num, le_cond}
use Rattle.apply_plan.specs.DirectStepLemmas.{made_places, made_safe, made_lowers, made_on_way, step_safe, step_lowers, step_on_way, step_makes}
use Rattle.apply_plan.specs.DirectRuns.{DirectEvent, Stepped, Made, Missed, Called, HappensDirectly, AllHappenDirectly, direct_writes_of, direct_writes_in, last_directly, StaysSafeDirectly, StaysOnWay, EndsDirectly}

module _ (h : Targets) (old new : KernelState) (all : AllByRecursion (IsCalm old new) h.entries) where
  same_held : (e : Entry) → IsCalm old new e → held new e ≡ held old e
  same_held e c = ap cpus_in c.group

  lets_falls : (d : Entry) → IsCalm old new d → lets_go new h.reserved d ≡ true → lets_go old h.reserved d ≡ true
  lets_falls d c lets =
      let parts = both_of (is_alive new.table d.pid) (has_own h.reserved (set.difference (held new d) d.target)) lets in
      both (is_alive old.table d.pid) (has_own h.reserved (set.difference (held old d) d.target)) (c.dies parts.0)
      (ap (λ s. has_own h.reserved (set.difference s d.target)) (sym (same_held d c)) ∙ parts.1)

  moves_falls : (d : Entry) → IsCalm old new d → must_move new d ≡ true → must_move old d ≡ true
  moves_falls d c moves =
      let parts = both_of (is_alive new.table d.pid) (not (is_same (held new d) d.target)) moves in
      both (is_alive old.table d.pid) (not (is_same (held old d) d.target)) (c.dies parts.0) (ap (λ s. not (is_same s d.target)) (sym (same_held d c)) ∙ parts.1)

  up_falls : (e d : Entry) → IsCalm old new e → IsCalm old new d → holds_up new h.reserved e d ≡ true → holds_up old h.reserved e d ≡ true
  up_falls e d ce cd up =
      let parts = up_parts new h.reserved e d up in
      let known = ask_parts new h.reserved e d parts.0 in
      both (asks old h.reserved e d) (has_own h.reserved (set.intersection (held old e) d.target))
      (both d.pinned (not (same_group e.group d.group) && cond e.pinned (lets_go old h.reserved d) (must_move old d)) known.0
      (both (not (same_group e.group d.group)) (cond e.pinned (lets_go old h.reserved d) (must_move old d)) (ap not known.1.0) (pick e.pinned known.1.1)))
      (ap (λ s. has_own h.reserved (set.intersection s d.target)) (sym (same_held e ce)) ∙ parts.1)
    where
      pick : (p : Bool) → cond p (lets_go new h.reserved d) (must_move new d) ≡ true → cond p (lets_go old h.reserved d) (must_move old d) ≡ true
      pick true l = lets_falls d cd l
      pick false m = moves_falls d cd m

  blocks_falls : (e : Entry) → IsCalm old new e → blocks new h.reserved h.entries e ≡ true → blocks old h.reserved h.entries e ≡ true
  blocks_falls e c blocked =
      let parts = both_of (is_alive new.table e.pid) (is_some (find (holds_up new h.reserved e) h.entries)) blocked in
      both (is_alive old.table e.pid) (is_some (find (holds_up old h.reserved e) h.entries)) (c.dies parts.0)
      (by (find (holds_up old h.reserved e) h.entries) refl parts.1)
    where
      none : find (holds_up old h.reserved e) h.entries ≡ None → find (holds_up new h.reserved e) h.entries ≡ None
      none is = none_found (holds_up new h.reserved e) h.entries
          (all_map2 (IsCalm old new) (λ d. holds_up old h.reserved e d ≡ false) (λ d. holds_up new h.reserved e d ≡ false)
          (λ d cd off. by_test (holds_up new h.reserved e d) (λ t. absurd (false≢true (sym off ∙ up_falls e d c cd t))) (λ f. f)) h.entries all
          (find_none (holds_up old h.reserved e) h.entries is))

      by : (o : Option Entry) → find (holds_up old h.reserved e) h.entries ≡ o → is_some (find (holds_up new h.reserved e) h.entries) ≡ true → is_some o ≡ true
      by (Some d) is some = refl
      by None is some = absurd (false≢true (sym (ap is_some (none is)) ∙ some))

  pub calm_left : left_directly h new ≤ left_directly h old
  calm_left = sum_le (waits_for new h.reserved h.entries) (waits_for old h.reserved h.entries) h.entries
      (all_map (IsCalm old new) (λ e. waits_for new h.reserved h.entries e ≤ waits_for old h.reserved h.entries e) one h.entries all) where
        one : (e : Entry) → IsCalm old new e → waits_for new h.reserved h.entries e ≤ waits_for old h.reserved h.entries e
        one e c =
            let m : num (must_move new e) ≤ num (must_move old e) = le_cond _ _ (moves_falls e c) in
            let b : num (blocks new h.reserved h.entries e) ≤ num (blocks old h.reserved h.entries e) = le_cond _ _ (blocks_falls e c) in
            omega (arith, m, b)

module _ (d : Directed) (least : Least) (serves : Serves d least) (old new : KernelState) (before : IsOpen d.targets old) where
  -- what a write leaves of the kernel, and that the hand-over is still open after it
  made_kernel : (w : Write) → IsPlaced old w.group → IsOpen d.targets (written old (Some w))
  made_kernel w there =
      let kernel : StepKeeps old (written old (Some w)) =
      (each_case_keeps old (written old (Some w)) before.well_formed).cpus w.group w.cpus (Ok tt) (((calls_are_free old).write w.group).1 (there.there, there.below), refl) in
      record {
        handover = before.handover;
        well_formed = kernel.well_formed;
        placed = placed_alike old (written old (Some w)) d.targets.entries (stands old w.group w.cpus) before.placed;
        given = before.given;
      }

  due_kernel : (o : Option Write) → due_directly d least old ≡ o → IsOpen d.targets (written old o)
  due_kernel None is = before
  due_kernel (Some w) is = made_kernel w (made_places d before.handover old before.placed w (makes d before.handover least serves old w (subst (Direct d least old) is (direct_is d least old))))

  pub missed_kernel : (o : Option Write) → IsOpen d.targets (missed o old)
  missed_kernel o =
      let kernel : StepKeeps old (missed o old) = whatever_is_told old old (old.failures + 1) (asks_for o (Err Failed) ++ old.trace) (keeps_itself old before.well_formed) in
      record {
        handover = before.handover;
        well_formed = kernel.well_formed;
        placed = placed_alike old (missed o old) d.targets.entries (itself_alike old.tree) before.placed;
        given = before.given;
      }

  pub stays_open : (x : DirectEvent) → HappensDirectly d least old x new → IsOpen d.targets new
  stays_open (Stepped (Ok answer)) happens = subst (IsOpen d.targets) (sym happens.0) (due_kernel (due_directly d least old) refl)
  stays_open (Stepped (Err fault)) happens = subst (IsOpen d.targets) (sym happens.1) (missed_kernel (due_directly d least old))
  stays_open (Made w) happens = subst (IsOpen d.targets) (sym happens.1) (made_kernel w (made_places d before.handover old before.placed w happens.0))
  stays_open (Missed w) happens = subst (IsOpen d.targets) (sym happens) (missed_kernel (Some w))
  stays_open (Called call r) happens = still_open d.targets old new before call r happens.0 happens.1

  pub event_safe : (x : DirectEvent) → HappensDirectly d least old x new → IsSafe old d.targets.reserved (holders_of d.targets.entries) → IsSafe new d.targets.reserved (holders_of d.targets.entries)
  event_safe (Stepped r) happens safe = step_safe d before.handover least serves old new before.placed r happens safe
  event_safe (Made w) happens safe = subst (λ k. IsSafe k d.targets.reserved (holders_of d.targets.entries)) (sym happens.1) (made_safe d before.handover old before.placed w happens.0 safe)
  event_safe (Missed w) happens safe = subst (λ k. IsSafe k d.targets.reserved (holders_of d.targets.entries)) (sym happens) (record { apart = safe.apart; some = safe.some })
  event_safe (Called call r) happens safe = calm_safe d.targets old new (calm d.targets old new before call r happens.0 happens.1) safe

  same_on_way : (first : KernelState) → AllByRecursion (λ a. held new a ≡ held old a) d.targets.entries → AreOnWay d first old → AreOnWay d first new
  same_on_way first same all =
      all_map2 (λ a. held new a ≡ held old a) (λ a. OnWay d.targets.reserved (allowed_of d a) first a (held old a)) (λ a. OnWay d.targets.reserved (allowed_of d a) first a (held new a))
      (λ a s on. subst (λ (x : Ids). OnWay d.targets.reserved (allowed_of d a) first a x) (sym s) on) d.targets.entries same all

  pub event_on_way : (first : KernelState) (x : DirectEvent) → HappensDirectly d least old x new → AreOnWay d first old → AreOnWay d first new
  event_on_way first (Stepped r) happens all = step_on_way d before.handover least serves old new before.placed first r happens all
  event_on_way first (Made w) happens all = subst (AreOnWay d first) (sym happens.1) (made_on_way d before.handover old before.placed w happens.0 first all)
  event_on_way first (Missed w) happens all = same_on_way first (all_map _ (λ a. held new a ≡ held old a) (λ a _. ap (λ k. held k a) happens) d.targets.entries all) all
  event_on_way first (Called call r) happens all =
      same_on_way first (all_map (IsCalm old new) (λ a. held new a ≡ held old a) (λ a c. ap cpus_in c.group) d.targets.entries (calm d.targets old new before call r happens.0 happens.1)) all

  pub event_lowers : (x : DirectEvent) → HappensDirectly d least old x new → direct_writes_of old x new + left_directly d.targets new ≤ left_directly d.targets old
  event_lowers (Stepped (Ok answer)) happens =
      let a : left_directly d.targets new + cond (is_some (due_directly d least old)) 1 0 ≤ left_directly d.targets old = step_lowers d before.handover least serves old new before.placed (Ok answer) happens in
      let b : writes new ≡ writes old + made_directly d least old = step_makes d before.handover least serves old new before.placed (Ok answer) happens in
      omega (arith, a, b)
  event_lowers (Stepped (Err fault)) happens =
      let a : left_directly d.targets new ≡ left_directly d.targets old = step_lowers d before.handover least serves old new before.placed (Err fault) happens in
      let b : writes new ≡ writes old + 1 = step_makes d before.handover least serves old new before.placed (Err fault) happens ∙ ap (λ x. writes old + cond x 1 0) happens.2 in
      let r : rise {A = Progress} (Err fault) ≡ 1 = ap (λ (f : KernelFault). rise {A = Progress} (Err f)) happens.0 in
      omega (arith, a, b, r)
  event_lowers (Made w) happens =
      let a : left_directly d.targets new + 1 ≤ left_directly d.targets old = subst (λ k. left_directly d.targets k + 1 ≤ left_directly d.targets old) (sym happens.1) (made_lowers d before.handover old before.placed w happens.0) in
      omega (arith, a)
  event_lowers (Missed w) happens = let a : left_directly d.targets new ≡ left_directly d.targets old = ap (left_directly d.targets) happens in omega (arith, a)
  event_lowers (Called call r) happens =
      let a : left_directly d.targets new ≤ left_directly d.targets old = calm_left d.targets old new (calm d.targets old new before call r happens.0 happens.1) in omega (arith, a)

pub stays_safe_directly : StaysSafeDirectly
stays_safe_directly d least k [] serves before safe happen = tt
stays_safe_directly d least k (x ∷ later) serves before safe happen =
    let after = event_safe d least serves k x.1 before x.0 happen.0 safe in
    (after, stays_safe_directly d least x.1 later serves (stays_open d least serves k x.1 before x.0 happen.0) after happen.1)

on_way_from : (d : Directed) (least : Least) (first k : KernelState) (run : List (DirectEvent × KernelState)) → Serves d least → IsOpen d.targets k → AreOnWay d first k
    → AllHappenDirectly d least k run → AllByRecursion (λ x. AreOnWay d first x.1) run
on_way_from d least first k [] serves before on happen = tt
on_way_from d least first k (x ∷ later) serves before on happen =
    let after = event_on_way d least serves k x.1 before first x.0 happen.0 on in
    (after, on_way_from d least first x.1 later serves (stays_open d least serves k x.1 before x.0 happen.0) after happen.1)

pub stays_on_way : StaysOnWay
stays_on_way d least k run serves before happen =
    on_way_from d least k k run serves before
    (all_of (λ a. OnWay d.targets.reserved (allowed_of d a) k a (held k a)) (λ a. record { keeps = λ q m t. m; within = λ q m. inl m }) d.targets.entries) happen

pub ends_directly : EndsDirectly
ends_directly d least k [] serves before happen = omega arith
ends_directly d least k (x ∷ later) serves before happen =
    let first : direct_writes_of k x.0 x.1 + left_directly d.targets x.1 ≤ left_directly d.targets k = event_lowers d least serves k x.1 before x.0 happen.0 in
    let rest : direct_writes_in x.1 later + left_directly d.targets (last_directly x.1 later) ≤ left_directly d.targets x.1 = ends_directly d least x.1 later serves (stays_open d least serves k x.1 before x.0 happen.0) happen.1 in
    omega (arith, first, rest)

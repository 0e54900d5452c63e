-- How many writes of a hand-over are of one container.
use Rattle.std.proofs.Common.{◌≡◌, ℕ, zero, suc, ◌+◌, ◌≤◌, Bool, true, false, cond, not, ◌&&◌, ◌||◌, List, [], ◌∷◌, length, refl, sym, ap, ◌∙◌, subst, arith}
use Rattle.std.proofs.lemmas.Bool.{false≢true, cond-false, cond-true}
use Rattle.std.proofs.lemmas.List.Sums.{sum_by-cons}
use Rattle.std.proofs.lemmas.Option.{same_Some}
use Rattle.std.specs.Prelude.{filter, find, Option, Some, None, is_some, Result, Ok}
use Rattle.std.specs.List.{AllByRecursion}
use Rattle.std.specs.FinSet as set
use Rattle.cpu_set.specs.Ids.{Ids, IsDisjoint, is_empty, is_same}
use Rattle.cpu_set.specs.PointwiseLaws.{same_members, contains-union, contains-intersection, contains-difference, is_subset-contains, is_same_decides}
use Rattle.cpuset_tree.specs.declared.Group.{Group}
use Rattle.cpuset_tree.specs.Groups.{same_group, requested_cpus}
use Rattle.cpuset_tree.specs.GroupLemmas.{same_group_sym, same_group_itself}
use Rattle.proctable.specs.Processes.{is_alive}
use Rattle.kernel_model.specs.declared.KernelFault.{KernelFault}
use Rattle.kernel_model.specs.KernelState.{KernelState, writes}
use Rattle.apply_plan.specs.declared.Entry.{Entry}
use Rattle.apply_plan.specs.declared.Progress.{Progress}
use Rattle.apply_plan.specs.declared.Progress.TheVariants.{More}
use Rattle.apply_plan.specs.declared.scan.Write.{Write}
use Rattle.apply_plan.specs.Holders.{HasSome}
use Rattle.apply_plan.specs.Kept.{within, kept}
use Rattle.apply_plan.specs.KeptLemmas.{kept_all, kept_some}
use Rattle.apply_plan.specs.Targets.{Targets, holder_of, IsPlaced, ArePlaced, IsHandover}
use Rattle.apply_plan.specs.DueLemmas.{Due, Releases, Moves, Rests, due_is, holds_its_target, keeps_its_target, lets_none_go}
use Rattle.apply_plan.specs.DueWrite.{held, kept_of, must_release, must_move, due, written, Steps, writes_of, writes_to_come, made_by_step}
use Rattle.apply_plan.specs.Finishes as turn
use Rattle.apply_plan.specs.Finishes.{last_answer}
use Rattle.apply_plan.specs.KernelFactLemmas.{with_request, is_write}
use Rattle.apply_plan.specs.ListLemmas.{find_passes, find_among, find_none, found_alone}
use Rattle.apply_plan.specs.MayWrite.{times_written}
use Rattle.apply_plan.specs.Runs.{IsOpen}
use Rattle.apply_plan.specs.StepLemmas.{waits_at_most, released_lowers, moved_lowers}
use Rattle.apply_plan.specs.WriteLemmas.{IsWrite, by_test}
use Rattle.direct_finish.specs.SeldomWritten.{IsSeldomWritten, WritesSeldom}
use Rattle.direct_finish.specs.SeldomLemmas.{finishes_write_seldom}
use Rattle.node.specs.declared.order.Order.TheVariants.{InTurn, Directly}
use Rattle.node.specs.NodeState.{Ongoing, NodeState}
use Rattle.node.specs.Owners.{owners_of}
use Rattle.node.specs.IsNode.{IsNode}
use Rattle.node.specs.Rows.{as_cpus, requested_by}
use Rattle.node.specs.Best.{CouldHave}
use Rattle.node.specs.Entries.{Target, entry_of, plan_targets, plan_entries, opened}
use Rattle.node.specs.declared.order.Order.{Order}
use Rattle.node.specs.LeastCores.{least_cores}
use Rattle.node.specs.Orders.{directed_of, StepsBy, FinishesBy, made_by}
use Rattle.node.specs.Rebalance.{Moves as HandsOver}
use Rattle.node.specs.Disturbs.{before, turn_writes, asked_by, writes_of_moves, IsLittleWritten, WritesLittle, RebalancesWriteLittle}
use Rattle.node.proofs.ListLemmas.{all_map, all_map2, all_of, all_of_map, of_all_map}
use Rattle.node.proofs.HeadlineLemmas.{begun_node}
use Rattle.node.proofs.OngoingLemmas.{entries_safe}
use Rattle.node.proofs.OrderLemmas.{OrdersLeave}
use Rattle.node.proofs.PlanLemmas.{opened_ongoing}
use Rattle.node.proofs.StepLemmas.{open_now, served_now, leaves, more_node}

-- ---- one more write

-- how many of one write, if there is one, are of this group
abbrev hits : Group → Option Write → ℕ
hits g None = 0
hits g (Some w) = cond (same_group w.group g) 1 0

times_before : (g : Group) (d : Option Write) (later : List Write) → times_written g (before d later) ≡ hits g d + times_written g later
times_before g None later = omega arith
times_before g (Some w) later = by (same_group w.group g) where
  by : (b : Bool) → length (cond b (w ∷ filter (λ x. same_group x.group g) later) (filter (λ x. same_group x.group g) later))
      ≡ cond b 1 0 + length (filter (λ x. same_group x.group g) later)
  by true = omega arith
  by false = omega arith

length_before : (d : Option Write) (later : List Write) → length (before d later) ≡ cond (is_some d) 1 0 + length later
length_before None later = omega arith
length_before (Some w) later = omega arith

-- ---- what a write lowers for one entry

-- a hand-over of one entry alone
module _ (h : Targets) (valid : IsHandover h) (old : KernelState) (placed : ArePlaced old h.entries) where
  abbrev alone : Entry → Targets
  alone e = record { entries = e ∷ []; reserved = h.reserved }

  valid_alone : (e : Entry) → is_empty e.target ≡ false → IsHandover (alone e)
  valid_alone e some = record { groups = (tt, tt); apart = (tt, tt); some = (some, tt); reserve = valid.reserve }

  found_in : (test : Entry → Bool) (e : Entry) → test e ≡ true → find test (e ∷ []) ≡ Some e
  found_in test e passes = cond-true (test e) (Some e) None passes

  none_in : (test : Entry → Bool) (e : Entry) → test e ≡ false → find test (e ∷ []) ≡ None
  none_in test e fails = cond-false (test e) (Some e) None fails

  one_less : (new : KernelState) (e : Entry) → writes_to_come (alone e) old ≡ writes_to_come (alone e) new + 1 → writes_of old h.reserved e ≡ writes_of new h.reserved e + 1
  one_less new e less = omega (arith, less, sum_by-cons (writes_of old h.reserved) e [], sum_by-cons (writes_of new h.reserved) e [])

  -- the write of an entry lowers what that entry waits for by one, and leaves what the others do
  abbrev IsLowered : Option Write → Entry → Type 0
  IsLowered d a = writes_of old h.reserved a ≡ writes_of (written old d) h.reserved a + hits a.group d

  module _ (e : Entry) (cpus : Ids) (test : Entry → Bool) (found : find test h.entries ≡ Some e)
      (less : writes_of old h.reserved e ≡ writes_of (with_request old e.group cpus) h.reserved e + 1) where
    abbrev after : KernelState
    after = with_request old e.group cpus

    w : IsWrite old after e.group cpus
    w = is_write old e.group cpus (find_among test (λ a. IsPlaced old a.group) h.entries e placed found).there

    its_own : (a : Entry) → a ≡ e → writes_of old h.reserved a ≡ writes_of after h.reserved a + cond (same_group e.group a.group) 1 0
    its_own a is =
        subst (λ (x : Entry). writes_of old h.reserved x ≡ writes_of after h.reserved x + cond (same_group e.group x.group) 1 0) (sym is)
        (less ∙ ap (λ b. writes_of after h.reserved e + cond b 1 0) (sym (same_group_itself e.group)))

    another : (a : Entry) → same_group e.group a.group ≡ false → writes_of old h.reserved a ≡ writes_of after h.reserved a + cond (same_group e.group a.group) 1 0
    another a other =
        let same : writes_of old h.reserved a ≡ writes_of after h.reserved a = ap (waited a) (sym (w.others a.group other)) in
        let none : cond {A = ℕ} (same_group e.group a.group) 1 0 ≡ 0 = ap (λ b. cond {A = ℕ} b 1 0) other in
        omega (arith, same, none)
      where
        waited : Entry → Ids → ℕ
        waited a s =
            cond (is_alive old.table a.pid && not (is_same (kept h.reserved a.target s) s)) (cond (is_same (kept h.reserved a.target s) a.target) 1 2)
            (cond (is_alive old.table a.pid && not (is_same s a.target)) 1 0)

    lowers : AllByRecursion (λ a. writes_of old h.reserved a ≡ writes_of after h.reserved a + cond (same_group e.group a.group) 1 0) h.entries
    lowers =
        all_map (λ a. same_group e.group a.group ≡ true → a ≡ e)
        (λ a. writes_of old h.reserved a ≡ writes_of after h.reserved a + cond (same_group e.group a.group) 1 0)
        (λ a only. by_test (same_group e.group a.group) (λ same. its_own a (only same)) (λ other. another a other)) h.entries
        (found_alone test (λ a b. same_group a.group b.group) (λ a b. same_group_sym a.group b.group) h.entries e valid.groups found)

  some_target : (test : Entry → Bool) (e : Entry) → find test h.entries ≡ Some e → is_empty e.target ≡ false
  some_target test e found = find_among test (λ a. is_empty a.target ≡ false) h.entries e valid.some found

  its_write : (test : Entry → Bool) (e : Entry) (cpus : Ids) → find test h.entries ≡ Some e → IsWrite old (with_request old e.group cpus) e.group cpus
  its_write test e cpus found = is_write old e.group cpus (find_among test (λ a. IsPlaced old a.group) h.entries e placed found).there

  each_lowered : (d : Option Write) → Due old h.reserved h.entries d → AllByRecursion (IsLowered d) h.entries
  each_lowered d (Releases e found) =
      lowers e (kept_of old h.reserved e) (must_release old h.reserved) found
      (one_less (with_request old e.group (kept_of old h.reserved e)) e
      (released_lowers old (with_request old e.group (kept_of old h.reserved e)) (alone e) (valid_alone e (some_target (must_release old h.reserved) e found)) e
      (found_in (must_release old h.reserved) e (find_passes (must_release old h.reserved) h.entries e found))
      (its_write (must_release old h.reserved) e (kept_of old h.reserved e) found)))
  each_lowered d (Moves e none found) =
      lowers e e.target (must_move old) found
      (one_less (with_request old e.group e.target) e
      (moved_lowers old (with_request old e.group e.target) (alone e) (valid_alone e (some_target (must_move old) e found)) e
      (none_in (must_release old h.reserved) e
      (find_among (must_move old) (λ a. must_release old h.reserved a ≡ false) h.entries e (find_none (must_release old h.reserved) h.entries none) found))
      (found_in (must_move old) e (find_passes (must_move old) h.entries e found)) (its_write (must_move old) e e.target found)))
  each_lowered d (Rests r m) = all_of (IsLowered None) (λ a. omega arith) h.entries

  due_lowers : AllByRecursion (IsLowered (due h old)) h.entries
  due_lowers = each_lowered (due h old) (due_is old h.reserved h.entries)

  -- and is of no group that is none of the entries'
  others_missed : (g : Group) → AllByRecursion (λ a. same_group a.group g ≡ false) h.entries → (d : Option Write) → Due old h.reserved h.entries d → hits g d ≡ 0
  others_missed g apart d (Releases e found) =
      ap (λ b. cond {A = ℕ} b 1 0) (find_among (must_release old h.reserved) (λ a. same_group a.group g ≡ false) h.entries e apart found)
  others_missed g apart d (Moves e none found) =
      ap (λ b. cond {A = ℕ} b 1 0) (find_among (must_move old) (λ a. same_group a.group g ≡ false) h.entries e apart found)
  others_missed g apart d (Rests r m) = refl

-- ---- all steps

-- the writes of steps: as many as the kernel counted, each of an entry, and no entry has more than it waits for
pub record Little (o : Ongoing) (old : KernelState) (these : List Write) (new : KernelState) : Type 0 where
  pub all : writes new ≡ writes old + length these
  pub each : AllByRecursion (λ a. times_written a.group these ≤ writes_of old o.targets.reserved a) o.targets.entries
  pub others : (g : Group) → AllByRecursion (λ a. same_group a.group g ≡ false) o.targets.entries → times_written g these ≡ 0

module _ (law : OrdersLeave) (o : Ongoing) (in_turn : o.order ≡ InTurn) where
  module _ (old : NodeState) (h : IsNode old) (was : old.ongoing ≡ Some o) where
    opened_now : IsOpen o.targets old.kernel
    opened_now = open_now law old h o was

    lowered : AllByRecursion (λ a. writes_of old.kernel o.targets.reserved a
        ≡ writes_of (written old.kernel (due o.targets old.kernel)) o.targets.reserved a + hits a.group (due o.targets old.kernel)) o.targets.entries
    lowered = due_lowers o.targets opened_now.handover old.kernel opened_now.placed

    missed : (g : Group) → AllByRecursion (λ a. same_group a.group g ≡ false) o.targets.entries → hits g (due o.targets old.kernel) ≡ 0
    missed g apart =
        others_missed o.targets opened_now.handover old.kernel opened_now.placed g apart (due o.targets old.kernel)
        (due_is old.kernel o.targets.reserved o.targets.entries)

    -- one write, and none after it
    last_little : (d : Option Write) → d ≡ due o.targets old.kernel → (new : KernelState) → writes new ≡ writes old.kernel + made_by_step o.targets old.kernel
        → Little o old.kernel (before d []) new
    last_little d is new made = record {
      all = let long : length (before d []) ≡ cond (is_some d) 1 0 + 0 = length_before d [] in
          let same : cond {A = ℕ} (is_some d) 1 0 ≡ made_by_step o.targets old.kernel = ap (λ x. cond {A = ℕ} (is_some x) 1 0) is in
          omega (arith, made, long, same);
      each = all_map (λ a. writes_of old.kernel o.targets.reserved a
          ≡ writes_of (written old.kernel (due o.targets old.kernel)) o.targets.reserved a + hits a.group (due o.targets old.kernel))
          (λ a. times_written a.group (before d []) ≤ writes_of old.kernel o.targets.reserved a)
          (λ a less.
          let times : times_written a.group (before d []) ≡ hits a.group d + 0 = times_before a.group d [] in
          let same : hits a.group d ≡ hits a.group (due o.targets old.kernel) = ap (hits a.group) is in
          omega (arith, times, same, less)) o.targets.entries lowered;
      others = λ g apart.
          let times : times_written g (before d []) ≡ hits g d + 0 = times_before g d [] in
          let none : hits g d ≡ 0 = ap (hits g) is ∙ missed g apart in
          omega (arith, times, none);
    }

    -- one write before others
    first_little : (d : Option Write) → d ≡ due o.targets old.kernel → (mid : KernelState) → mid ≡ written old.kernel (due o.targets old.kernel)
        → writes mid ≡ writes old.kernel + made_by_step o.targets old.kernel → (later : List Write) (new : KernelState) → Little o mid later new
        → Little o old.kernel (before d later) new
    first_little d is mid at made later new rest = record {
      all = let long : length (before d later) ≡ cond (is_some d) 1 0 + length later = length_before d later in
          let same : cond {A = ℕ} (is_some d) 1 0 ≡ made_by_step o.targets old.kernel = ap (λ x. cond {A = ℕ} (is_some x) 1 0) is in
          omega (arith, made, long, same, rest.all);
      each = all_map2 (λ a. writes_of old.kernel o.targets.reserved a
          ≡ writes_of (written old.kernel (due o.targets old.kernel)) o.targets.reserved a + hits a.group (due o.targets old.kernel))
          (λ a. times_written a.group later ≤ writes_of mid o.targets.reserved a)
          (λ a. times_written a.group (before d later) ≤ writes_of old.kernel o.targets.reserved a)
          (λ a less on.
          let times : times_written a.group (before d later) ≡ hits a.group d + times_written a.group later = times_before a.group d later in
          let same : hits a.group d ≡ hits a.group (due o.targets old.kernel) = ap (hits a.group) is in
          let there : writes_of mid o.targets.reserved a ≡ writes_of (written old.kernel (due o.targets old.kernel)) o.targets.reserved a =
          ap (λ (k : KernelState). writes_of k o.targets.reserved a) at in
          omega (arith, times, same, less, on, there)) o.targets.entries lowered rest.each;
      others = λ g apart.
          let times : times_written g (before d later) ≡ hits g d + times_written g later = times_before g d later in
          let none : hits g d ≡ 0 = ap (hits g) is ∙ missed g apart in
          let on : times_written g later ≡ 0 = rest.others g apart in
          omega (arith, times, none, on);
    }

  -- a step in turn is one in its order
  by_turn : (old : NodeState) (r : Result Progress KernelFault) (new : KernelState) → Steps o.targets old.kernel r new → StepsBy o.order old.machine o old.kernel r new
  by_turn old r new s = subst (λ (order : Order). StepsBy order old.machine o old.kernel r new) (sym in_turn) s

  -- how many writing calls a step in turn made
  made_one : (old : NodeState) (new : KernelState) → writes new ≡ writes old.kernel + made_by o.order old.machine o old.kernel
      → writes new ≡ writes old.kernel + made_by_step o.targets old.kernel
  made_one old new made = subst (λ (order : Order). writes new ≡ writes old.kernel + made_by order old.machine o old.kernel) in_turn made

  -- the last step
  ended_little : (old : NodeState) (h : IsNode old) (was : old.ongoing ≡ Some o) (r : Result Progress KernelFault) (new : KernelState) → Steps o.targets old.kernel r new
      → Little o old.kernel (before (due o.targets old.kernel) []) new
  ended_little old h was r new s = last_little old h was (due o.targets old.kernel) refl new (made_one old new (leaves law old h o was new r (by_turn old r new s)).made)

  all_little : (count : ℕ) (old : NodeState) (mid : KernelState) → IsNode old → old.ongoing ≡ Some o → (more : turn.StepsMore o.targets count old.kernel mid)
      (r : Result Progress KernelFault) (new : KernelState) → Steps o.targets mid r new
      → Little o old.kernel (turn_writes o.targets count old.kernel mid more (before (due o.targets mid) [])) new
  all_little zero old mid h was same r new s =
      subst (λ (k : KernelState). Little o old.kernel (before (due o.targets k) []) new) (sym same)
      (ended_little old h was r new (subst (λ (k : KernelState). Steps o.targets k r new) same s))
  all_little (suc count) old mid h was (next, step, more) r new s =
      let by = by_turn old (Ok More) next step in
      let node : IsNode (record old { kernel = next }) = more_node law old h o was next (Ok More) by in
      first_little old h was (due o.targets old.kernel) refl next step.0
      (made_one old next (leaves law old h o was next (Ok More) by).made) (turn_writes o.targets count next mid more (before (due o.targets mid) [])) new
      (all_little count (record old { kernel = next }) mid node was more r new s)

-- ---- what one container waits for

module _ (k : KernelState) (reserved : Ids) (e : Entry) where
  waits_for : (release move : Bool) → must_release k reserved e ≡ release → must_move k e ≡ move
      → writes_of k reserved e ≡ cond release (cond (is_same (kept_of k reserved e) e.target) 1 2) (cond move 1 0)
  waits_for release move r m = (λ i. cond (r i) (cond (is_same (kept_of k reserved e) e.target) 1 2) (cond (m i) 1 0))

  one_or_none : (b : Bool) → cond b 1 0 ≤ 1
  one_or_none true = omega arith
  one_or_none false = omega arith

  waits_none : is_empty e.target ≡ false → held k e ≡ e.target → writes_of k reserved e ≡ 0
  waits_none some is =
      let stays : must_move k e ≡ false = holds_its_target k e ((is_same_decides _ _).1 is) in
      waits_for false false (keeps_its_target k reserved e some stays) stays

  waits_one_move : kept_of k reserved e ≡ held k e → writes_of k reserved e ≤ 1
  waits_one_move keeps =
      subst (λ n. n ≤ 1) (sym (waits_for false (must_move k e) (lets_none_go k reserved e keeps) refl)) (one_or_none (must_move k e))

  waits_one_release : kept_of k reserved e ≡ e.target → writes_of k reserved e ≤ 1
  waits_one_release is = by (must_release k reserved e) (must_move k e) where
    same : is_same (kept_of k reserved e) e.target ≡ true
    same = (is_same_decides _ _).1 is

    at_most : (r m s : Bool) → s ≡ true → cond r (cond s 1 2) (cond m 1 0) ≤ 1
    at_most true m true is = omega arith
    at_most true m false is = absurd (false≢true is)
    at_most false m s is = one_or_none m

    by : (r m : Bool) → writes_of k reserved e ≤ 1
    by r m = at_most (must_release k reserved e) (must_move k e) (is_same (kept_of k reserved e) e.target) same

-- of CPUs that are let go, none of them reserved, the target is what is kept
kept_is_target : (reserved target cpus : Ids) → is_empty target ≡ false → set.is_subset target cpus ≡ true → IsDisjoint (set.difference cpus target) reserved
    → kept reserved target cpus ≡ target
kept_is_target reserved target cpus some sub apart = kept_some reserved target cpus (ap is_empty same ∙ some) ∙ same where
  one : (c t r : Bool) → (t ≡ true → c ≡ true) → ((c && not t) ≡ true → r ≡ true → ⊥) → (c && (t || r)) ≡ t
  one true true r f g = refl
  one true false true f g = absurd (g refl refl)
  one true false false f g = refl
  one false true r f g = f refl
  one false false r f g = refl

  same : within reserved target cpus ≡ target
  same = same_members (within reserved target cpus) target (λ q.
      contains-intersection cpus (set.union target reserved) q ∙ ap (λ b. set.contains cpus q && b) (contains-union target reserved q)
      ∙ one (set.contains cpus q) (set.contains target q) (set.contains reserved q) (is_subset-contains target cpus sub q)
      (λ gone in_reserved. apart q (contains-difference cpus target q ∙ gone) in_reserved))

module _ (old : NodeState) (h : IsNode old) (sets : List Ids) (could : CouldHave old sets) (these : List Write) where
  -- a live one requests some CPUs, and is to have some
  record HasBoth (e : Entry) : Type 0 where
    target : is_empty e.target ≡ false
    some : is_alive old.kernel.table e.pid ≡ true → is_empty (held old.kernel e) ≡ false

  have_both : AllByRecursion HasBoth (plan_entries old sets)
  have_both =
      let ongoing = opened_ongoing old h sets could InTurn in
      all_map2 (λ e. is_empty e.target ≡ false) (λ e. HasSome old.kernel (requested_cpus old.kernel.tree) (holder_of e)) HasBoth
      (λ e target some. record { target = target; some = some }) (plan_entries old sets) ongoing.handover.some
      (of_all_map holder_of (HasSome old.kernel (requested_cpus old.kernel.tree)) (plan_entries old sets)
      (entries_safe old.kernel old.kernel.reserved (plan_entries old sets) (owners_of old.containers) ongoing.of h.holds.safe).some)

  one_little : (p : Target) → HasBoth (entry_of p) → times_written p.0.1.group these ≤ writes_of old.kernel old.machine.reserved (entry_of p)
      → IsLittleWritten old.kernel old.machine.reserved these p
  one_little p both most = record {
    stays = λ is. (let none : writes_of old.kernel old.machine.reserved (entry_of p) ≡ 0 = waits_none old.kernel old.machine.reserved (entry_of p) both.target is in omega (arith, most, none));
    grows = λ sub. (let one : writes_of old.kernel old.machine.reserved (entry_of p) ≤ 1 = grown sub (is_alive old.kernel.table p.0.1.pid) refl in omega (arith, most, one));
    shrinks = λ sub apart. (let one : writes_of old.kernel old.machine.reserved (entry_of p) ≤ 1 =
        waits_one_release old.kernel old.machine.reserved (entry_of p) (kept_is_target old.machine.reserved p.1 (requested_by old.kernel p.0) both.target sub apart) in omega (arith, most, one));
    most = (let two : writes_of old.kernel old.machine.reserved (entry_of p) ≤ 2 =
        waits_at_most old.machine.reserved (is_alive old.kernel.table p.0.1.pid) (requested_by old.kernel p.0) (entry_of p) in omega (arith, most, two));
  } where
    grown : set.is_subset (set.difference (requested_by old.kernel p.0) p.1) old.machine.reserved ≡ true → (live : Bool) → is_alive old.kernel.table p.0.1.pid ≡ live
        → writes_of old.kernel old.machine.reserved (entry_of p) ≤ 1
    grown sub true lives =
        waits_one_move old.kernel old.machine.reserved (entry_of p) (kept_all old.machine.reserved p.1 (requested_by old.kernel p.0) sub (both.some lives))
    grown sub false dead =
        let none : writes_of old.kernel old.machine.reserved (entry_of p) ≡ 0 =
        waits_for old.kernel old.machine.reserved (entry_of p) false false
        (ap (λ a. a && not (is_same (kept_of old.kernel old.machine.reserved (entry_of p)) (held old.kernel (entry_of p)))) dead)
        (ap (λ a. a && not (is_same (held old.kernel (entry_of p)) p.1)) dead) in
        omega (arith, none)

  pub writes_little : (new : NodeState) → Little (opened InTurn old sets) old.kernel these new.kernel → WritesLittle old sets these new
  writes_little new l = record {
    all = l.all;
    each = all_map2 (λ p. HasBoth (entry_of p)) (λ p. times_written p.0.1.group these ≤ writes_of old.kernel old.machine.reserved (entry_of p))
        (IsLittleWritten old.kernel old.machine.reserved these) one_little (plan_targets old sets)
        (of_all_map entry_of HasBoth (plan_targets old sets) have_both)
        (of_all_map entry_of (λ a. times_written a.group these ≤ writes_of old.kernel old.machine.reserved a) (plan_targets old sets) l.each);
    others = λ g apart. l.others g (all_of_map entry_of (λ a. same_group a.group g ≡ false) (plan_targets old sets) apart);
  }

  -- directly
  one_seldom : (p : Target) → IsSeldomWritten old.kernel old.machine.reserved these (entry_of p) → IsLittleWritten old.kernel old.machine.reserved these p
  one_seldom p s = record { stays = s.stays; grows = s.grows; shrinks = λ sub apart. s.shrinks sub; most = s.most }

  pub seldom_is_little : (new : NodeState) → WritesSeldom (directed_of (opened Directly old sets)) old.kernel these new.kernel → WritesLittle old sets these new
  seldom_is_little new s = record {
    all = s.all;
    each = all_map (λ p. IsSeldomWritten old.kernel old.machine.reserved these (entry_of p)) (IsLittleWritten old.kernel old.machine.reserved these) one_seldom (plan_targets old sets)
        (of_all_map entry_of (IsSeldomWritten old.kernel old.machine.reserved these) (plan_targets old sets) s.each);
    others = λ g apart. s.others g (all_of_map entry_of (λ a. same_group a.group g ≡ false) (plan_targets old sets) apart);
  }

-- what is asked of the kernel is so, if the hand-over is this one
module _ (law : OrdersLeave) (old : NodeState) (h : IsNode old) (o : Ongoing) (was : old.ongoing ≡ Some o) (r : Result (Unit {0}) KernelFault) (new : KernelState) where
  asked_in_turn : (order : Order) → order ≡ InTurn → o.order ≡ InTurn → (makes : FinishesBy order old.machine o old.kernel r new)
      → Little o old.kernel (asked_by order old.machine o old.kernel r new makes) new
  asked_in_turn InTurn is in_turn makes = all_little law o in_turn makes.steps old makes.mid h was makes.more (last_answer r) new makes.ends
  asked_in_turn Directly is in_turn makes = absurd (let no : ⊥ = cc is in no)

  asked_directly : (order : Order) → order ≡ Directly → (makes : FinishesBy order old.machine o old.kernel r new)
      → WritesSeldom (directed_of o) old.kernel (asked_by order old.machine o old.kernel r new makes) new
  asked_directly InTurn is makes = absurd (let no : ⊥ = cc is in no)
  asked_directly Directly is makes =
      let opened_now = open_now law old h o was in
      finishes_write_seldom (directed_of o) (least_cores old.machine) old.kernel r new opened_now.handover (served_now law old h o was) opened_now.placed makes

-- the hand-over of a rebalance is the one that `begin` opened
its_handover : (order : Order) (old : NodeState) (total : ℕ) (r : Result (Unit {0}) KernelFault) (new : NodeState) (m : HandsOver order old total r new)
    → m.finishes.handover ≡ opened order old (as_cpus old.machine m.begun.plan)
its_handover order old total r new m =
    same_Some m.finishes.handover (opened order old (as_cpus old.machine m.begun.plan)) (sym m.finishes.was ∙ ap (λ (n : NodeState). n.ongoing) m.begun.is)

pub rebalances_write_little : OrdersLeave → RebalancesWriteLittle
rebalances_write_little law InTurn old total r new h m =
    let f = m.finishes in
    let sets : List Ids = as_cpus old.machine m.begun.plan in
    let its : f.handover ≡ opened InTurn old sets = its_handover InTurn old total r new m in
    let order : f.handover.order ≡ InTurn = ap (λ (x : Ongoing). x.order) its in
    let l : Little f.handover m.mid.kernel (writes_of_moves InTurn old total r new m) new.kernel =
    asked_in_turn law m.mid (begun_node InTurn old h total m.mid m.begun) f.handover f.was r new.kernel f.handover.order order order f.makes in
    writes_little old h sets m.begun.best.could (writes_of_moves InTurn old total r new m) new
    (subst (λ (k : KernelState). Little (opened InTurn old sets) k (writes_of_moves InTurn old total r new m) new.kernel) (ap (λ (n : NodeState). n.kernel) m.begun.is)
    (subst (λ (x : Ongoing). Little x m.mid.kernel (writes_of_moves InTurn old total r new m) new.kernel) its l))
rebalances_write_little law Directly old total r new h m =
    let f = m.finishes in
    let sets : List Ids = as_cpus old.machine m.begun.plan in
    let its : f.handover ≡ opened Directly old sets = its_handover Directly old total r new m in
    let s : WritesSeldom (directed_of f.handover) m.mid.kernel (writes_of_moves Directly old total r new m) new.kernel =
    asked_directly law m.mid (begun_node Directly old h total m.mid m.begun) f.handover f.was r new.kernel f.handover.order (ap (λ (x : Ongoing). x.order) its) f.makes in
    seldom_is_little old h sets m.begun.best.could (writes_of_moves Directly old total r new m) new
    (subst (λ (k : KernelState). WritesSeldom (directed_of (opened Directly old sets)) k (writes_of_moves Directly old total r new m) new.kernel) (ap (λ (n : NodeState). n.kernel) m.begun.is)
    (subst (λ (x : Ongoing). WritesSeldom (directed_of x) m.mid.kernel (writes_of_moves Directly old total r new m) new.kernel) its s))

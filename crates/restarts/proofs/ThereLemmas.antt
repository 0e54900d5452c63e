-- No group ever requests a CPU that the machine has not.
use Rattle.std.proofs.Common.{◌≡◌, inl, inr, ℕ, max, Bool, true, false, cond, ◌&&◌, nat_lt, List, [], ◌∷◌, ◌++◌, map, drop, fold, refl, sym, ap, ◌∙◌, subst}
use Rattle.std.proofs.lemmas.Bool.{false≢true}
use Rattle.std.specs.Int.{div_ceil}
use Rattle.std.specs.Prelude.{◌⊎◌, Option, Some, None, find, option_map, is_some, Result, Ok, Err, IfSome, slice_index_or}
use Rattle.std.specs.List.{AllByRecursion}
use Rattle.std.specs.FinSet as set
use Rattle.faults.specs.declared.OrMemory.{OrMemory}
use Rattle.faults.specs.declared.OrMemory.TheVariants.{Memory, Fault}
use Rattle.cpu_set.specs.Ids.{Ids, is_empty}
use Rattle.cpu_set.specs.PointwiseLaws.{contains-empty, contains-is_subset, is_subset-contains}
use Rattle.cpu_set.specs.ThoseLemmas.{contains-those}
use Rattle.cpu_set.specs.declared.TheConstants.{CPU_LIMIT}
use Rattle.cpuset_tree.specs.declared.Group.{Group}
use Rattle.cpuset_tree.specs.TreeState.{GroupEntry, TreeState}
use Rattle.cpuset_tree.specs.Groups.{same_group, entry_of, cpus_in, has_group, child_of, requested_cpus}
use Rattle.cpuset_tree.specs.GroupLemmas.{same_group-equal}
use Rattle.cpuset_tree.specs.TreeChanges.{first_tree, new_entry, with_cpus}
use Rattle.cpuset_tree.specs.TreeLaws.{CpusRequested}
use Rattle.cpuset_tree.specs.TreeLemmas.{writes_request}
use Rattle.proctable.specs.Processes.{is_alive}
use Rattle.kernel_model.specs.declared.KernelFault.{KernelFault}
use Rattle.kernel_model.specs.KernelState.{KernelState, IsFirstKernel}
use Rattle.kernel_model.specs.Cases.{RemovesGroup, WritesCpus, WritesMems}
use Rattle.kernel_model.specs.KernelLemmas.{writes_leave_groups, writes_keep_tree}
use Rattle.machine.specs.Layout.{Layout}
use Rattle.machine.specs.Present.{present, IsPresent}
use Rattle.machine.specs.Cores.{cores_in}
use Rattle.machine.specs.WholeLaws.{cpus_of_cores-within}
use Rattle.machine.specs.IsSound.{IsSound}
use Rattle.demand.specs.declared.Demand.{Demand as Asked}
use Rattle.apply_plan.specs.declared.Entry.{Entry}
use Rattle.apply_plan.specs.declared.scan.Write.{Write}
use Rattle.apply_plan.specs.declared.Progress.{Progress}
use Rattle.apply_plan.specs.Kept.{kept, within}
use Rattle.apply_plan.specs.ListLemmas.{find_among}
use Rattle.apply_plan.specs.SetMemberLaws.{in_meet, in_minus, in_union}
use Rattle.apply_plan.specs.DirectLemmas.{both_of}
use Rattle.apply_plan.specs.declared.Progress.TheVariants.{More}
use Rattle.apply_plan.specs.DueWrite.{held, must_release, must_move, first_write, due_write, written, progress_of}
use Rattle.apply_plan.specs.DirectWords.{may_take, places, spare, way, asked as asked_of, taken, all_of_those}
use Rattle.apply_plan.specs.MayWrite.{write_of}
use Rattle.apply_plan.specs.Directed.{Least, allowed_of}
use Rattle.apply_plan.specs.DirectWrite.{is_new, is_mover, is_grower, must_yield, shares, steps_aside, shared_way, aside, squeezed, lacks, has_room, gets, first_due, direct_write, due_directly}
use Rattle.node.specs.declared.order.Order.{Order}
use Rattle.node.specs.declared.order.Order.TheVariants.{InTurn, Directly}
use Rattle.node.specs.Entries.{targets_in, entry_of as entry_of_target}
use Rattle.node.specs.LeastCores.{count_below, first_of, least_cores}
use Rattle.node.specs.NodeState.{ContainerState, Ongoing}
use Rattle.node.specs.Owners.{is_pinned}
use Rattle.node.specs.Status.{is_live}
use Rattle.node.specs.Orders.{directed_of, StepsBy, WritesBy}
use Rattle.node.specs.Launch.{AtOnce, FindsOr, FindsOrMakes, WritesSets, StartsIn, Launches}
use Rattle.node.specs.Making.{found_states, set_states, set_states_at_once, start_states, launch_states}
use Rattle.node.specs.Updates.{MadeIf, gives_way, moves_home, Rewrites, made_states, rewrite_states}

-- all its CPUs are the machine's
abbrev pub IsThere : Layout → Ids → Type 0
IsThere m s = (cpu : ℕ) → set.contains s cpu ≡ true → IsPresent m cpu

-- so are those that any group requests
abbrev pub AllThere : Layout → KernelState → Type 0
AllThere m k = (g : Group) → IsThere m (requested_cpus k.tree g)

pub all_append : {X : Type 0} (P : X → Type 0) (xs ys : List X) → AllByRecursion P xs → AllByRecursion P ys → AllByRecursion P (xs ++ ys)
all_append P [] ys h i = i
all_append P (x ∷ xs) ys h i = (h.0, all_append P xs ys h.1 i)

module _ (m : Layout) where
  none_there : IsThere m set.empty
  none_there cpu has = absurd (false≢true (sym (contains-empty cpu) ∙ has))

  both_there : (s t : Ids) → IsThere m s → IsThere m t → IsThere m (set.union s t)
  both_there s t a b cpu has = by (in_union s t cpu has) where
    by : (set.contains s cpu ≡ true) ⊎ (set.contains t cpu ≡ true) → IsPresent m cpu
    by (inl own) = a cpu own
    by (inr own) = b cpu own

  met_there : (s t : Ids) → IsThere m s → IsThere m (set.intersection s t)
  met_there s t a cpu has = a cpu (in_meet s t cpu has).0

  less_there : (s t : Ids) → IsThere m s → IsThere m (set.difference s t)
  less_there s t a cpu has = a cpu (in_minus s t cpu has).0

  cond_there : (b : Bool) (s t : Ids) → IsThere m s → IsThere m t → IsThere m (cond b s t)
  cond_there true s t x y = x
  cond_there false s t x y = y

  kept_there : (reserved target cpus : Ids) → IsThere m reserved → IsThere m cpus → IsThere m (kept reserved target cpus)
  kept_there reserved target cpus r c =
      cond_there (is_empty (within reserved target cpus)) reserved (within reserved target cpus) r (met_there cpus (set.union target reserved) c)

  -- calls of the kernel
  pub tree_same : (old new : KernelState) → new.tree ≡ old.tree → AllThere m old → AllThere m new
  tree_same old new same h g = subst (λ (t : TreeState). IsThere m (requested_cpus t g)) (sym same) (h g)

  each_same : (old new : KernelState) → ((g : Group) → requested_cpus new.tree g ≡ requested_cpus old.tree g) → AllThere m old → AllThere m new
  each_same old new same h g = subst (IsThere m) (sym (same g)) (h g)

  wrote : (old new : KernelState) (g : Group) (cpus : Ids) (r : Result (Unit {0}) KernelFault) → WritesCpus old g cpus r new → IsThere m cpus → AllThere m old → AllThere m new
  wrote old new g cpus (Ok value) w c h p = by (same_group g p) refl where
    by : (b : Bool) → same_group g p ≡ b → IsThere m (requested_cpus new.tree p)
    by true same = subst (IsThere m) (sym (ap (requested_cpus new.tree) (sym (same_group-equal g p same)) ∙ (writes_leave_groups.cpus old new g cpus (Ok value) w).own)) c
    by false other = subst (IsThere m) (sym ((writes_leave_groups.cpus old new g cpus (Ok value) w).others p other)) (h p)
  wrote old new g cpus (Err fault) w c h p = tree_same old new (writes_leave_groups.cpus old new g cpus (Err fault) w).refused h p

  pub removed : (old new : KernelState) (g : Group) (r : Result (Unit {0}) KernelFault) → RemovesGroup old g r new → AllThere m old → AllThere m new
  removed old new g (Ok value) w h p = by (same_group g p) refl where
    by : (b : Bool) → same_group g p ≡ b → IsThere m (requested_cpus new.tree p)
    by true same = subst (IsThere m) (sym (ap (requested_cpus new.tree) (sym (same_group-equal g p same)) ∙ ap cpus_in (writes_leave_groups.remove old new g (Ok value) w).gone)) none_there
    by false other = subst (IsThere m) (sym (ap cpus_in ((writes_leave_groups.remove old new g (Ok value) w).apart p other))) (h p)
  removed old new g (Err fault) w h p = tree_same old new (writes_leave_groups.remove old new g (Err fault) w).refused h p

  -- the states in the midst of a launch, and the last one
  found_there : (o : Option Group) (old new : KernelState) (parent : Group) (name : List ℕ) (r : Result Group (OrMemory KernelFault)) → FindsOr o old parent name r new
      → AllThere m old → AllThere m new
  found_there (Some g) old new parent name r f h = tree_same old new (ap (λ (k : KernelState). k.tree) f.1) h
  found_there None old new parent name r f h = each_same old new (writes_leave_groups.make old new parent name r f).cpus h

  module _ (g : Group) (cpus mems : Ids) (c : IsThere m cpus) where
    pub sets_there : (old new : KernelState) (r : Result (Unit {0}) KernelFault) → WritesSets old g cpus mems r new → AllThere m old → AllThere m new
    sets_there old new r (inl (fault, refused, is)) h = wrote old new g cpus (Err fault) refused c h
    sets_there old new r (inr (done, mid, first, second)) h =
        each_same mid new (writes_leave_groups.mems mid new g mems r second).cpus (wrote old mid g cpus (Ok done) first c h)

    pub sets_at_once : (old new : KernelState) (e : OrMemory KernelFault) → AtOnce (WritesSets old g cpus mems) (Err e) new → AllThere m old → AllThere m new
    sets_at_once old new Memory none h = absurd none
    sets_at_once old new (Fault fault) w h = sets_there old new (Err fault) w h

    pub start_there : (old new : KernelState) (r : Result ℕ (OrMemory KernelFault)) → StartsIn old g cpus mems r new → AllThere m old → AllThere m new
    start_there old new r (inl (fault, refused, is)) h = sets_at_once old new fault refused h
    start_there old new r (inr (done, mid, writes, spawns)) h = tree_same mid new (writes_keep_tree.spawn mid new g r spawns) (sets_there old mid (Ok done) writes h)

    -- the states in its midst
    set_states_there : (old new : KernelState) (r : Result (Unit {0}) KernelFault) (w : WritesSets old g cpus mems r new) → AllThere m old
        → AllByRecursion (AllThere m) (set_states old g cpus mems r new w)
    set_states_there old new r (inl (fault, refused, is)) h = (sets_there old new r (inl (fault, refused, is)) h, tt)
    set_states_there old new r (inr (done, mid, first, second)) h =
        (wrote old mid g cpus (Ok done) first c h, (sets_there old new r (inr (done, mid, first, second)) h, tt))

    set_states_at_once_there : (old new : KernelState) (e : OrMemory KernelFault) (w : AtOnce (WritesSets old g cpus mems) (Err e) new) → AllThere m old
        → AllByRecursion (AllThere m) (set_states_at_once old g cpus mems (Err e) new w)
    set_states_at_once_there old new Memory none h = absurd none
    set_states_at_once_there old new (Fault fault) w h = set_states_there old new (Err fault) w h

    pub start_states_there : (old new : KernelState) (r : Result ℕ (OrMemory KernelFault)) (w : StartsIn old g cpus mems r new) → AllThere m old
        → AllByRecursion (AllThere m) (start_states old g cpus mems r new w)
    start_states_there old new r (inl (fault, refused, is)) h = set_states_at_once_there old new fault refused h
    start_states_there old new r (inr (done, mid, writes, spawns)) h =
        all_append (AllThere m) (set_states old g cpus mems (Ok done) mid writes) (new ∷ []) (set_states_there old mid (Ok done) writes h)
        (start_there old new r (inr (done, mid, writes, spawns)) h, tt)

  module _ (parent : Group) (name : List ℕ) (cpus mems : Ids) (c : IsThere m cpus) where
    found_states_there : (o : Option Group) (old new : KernelState) (r : Result Group (OrMemory KernelFault)) (f : FindsOr o old parent name r new) → AllThere m old
        → AllByRecursion (AllThere m) (found_states o old parent name r new f)
    found_states_there (Some g) old new r f h = tt
    found_states_there None old new r f h = (found_there None old new parent name r f h, tt)

    pub launch_there : (old new : KernelState) (r : Result (Group × ℕ) (OrMemory KernelFault)) → Launches old parent name cpus mems r new → AllThere m old → AllThere m new
    launch_there old new (Ok made) (mid, finds, starts) h =
        start_there made.0 cpus mems c mid new (Ok made.1) starts (found_there (child_of old.tree parent name) old mid parent name (Ok made.0) finds h)
    launch_there old new (Err error) (inl refused) h = found_there (child_of old.tree parent name) old new parent name (Err error) refused h
    launch_there old new (Err error) (inr (g, mid, finds, starts)) h =
        start_there g cpus mems c mid new (Err error) starts (found_there (child_of old.tree parent name) old mid parent name (Ok g) finds h)

    pub launch_states_there : (old new : KernelState) (r : Result (Group × ℕ) (OrMemory KernelFault)) (l : Launches old parent name cpus mems r new) → AllThere m old
        → AllByRecursion (AllThere m) (launch_states old parent name cpus mems r new l)
    launch_states_there old new (Ok made) (mid, finds, starts) h =
        all_append (AllThere m) (found_states (child_of old.tree parent name) old parent name (Ok made.0) mid finds)
        (start_states mid made.0 cpus mems (Ok made.1) new starts)
        (found_states_there (child_of old.tree parent name) old mid (Ok made.0) finds h)
        (start_states_there made.0 cpus mems c mid new (Ok made.1) starts (found_there (child_of old.tree parent name) old mid parent name (Ok made.0) finds h))
    launch_states_there old new (Err error) (inl refused) h = found_states_there (child_of old.tree parent name) old new (Err error) refused h
    launch_states_there old new (Err error) (inr (g, mid, finds, starts)) h =
        all_append (AllThere m) (found_states (child_of old.tree parent name) old parent name (Ok g) mid finds) (start_states mid g cpus mems (Err error) new starts)
        (found_states_there (child_of old.tree parent name) old mid (Ok g) finds h)
        (start_states_there g cpus mems c mid new (Err error) starts (found_there (child_of old.tree parent name) old mid parent name (Ok g) finds h))

  -- an update
  module _ (reserved : Ids) (res : IsThere m reserved) (c : ContainerState) (asked : Asked) where
    cpus_if : (make : Bool) (old new : KernelState) (r : Result (Unit {0}) KernelFault) → MadeIf make old (WritesCpus old c.group reserved) r new → AllThere m old → AllThere m new
    cpus_if true old new r w h = wrote old new c.group reserved r w res h
    cpus_if false old new r w h = tree_same old new (ap (λ (k : KernelState). k.tree) w.1) h

    mems_if : (make : Bool) (old new : KernelState) (r : Result (Unit {0}) KernelFault) → MadeIf make old (WritesMems old c.group asked.homes) r new → AllThere m old → AllThere m new
    mems_if true old new r w h = each_same old new (writes_leave_groups.mems old new c.group asked.homes r w).cpus h
    mems_if false old new r w h = tree_same old new (ap (λ (k : KernelState). k.tree) w.1) h

    cpus_states : (make : Bool) (old new : KernelState) (r : Result (Unit {0}) KernelFault) (w : MadeIf make old (WritesCpus old c.group reserved) r new) → AllThere m old
        → AllByRecursion (AllThere m) (made_states make old (WritesCpus old c.group reserved) r new w)
    cpus_states true old new r w h = (cpus_if true old new r w h, tt)
    cpus_states false old new r w h = tt

    mems_states : (make : Bool) (old new : KernelState) (r : Result (Unit {0}) KernelFault) (w : MadeIf make old (WritesMems old c.group asked.homes) r new) → AllThere m old
        → AllByRecursion (AllThere m) (made_states make old (WritesMems old c.group asked.homes) r new w)
    mems_states true old new r w h = (mems_if true old new r w h, tt)
    mems_states false old new r w h = tt

    pub rewrites_there : (old new : KernelState) (r : Result (Unit {0}) KernelFault) → Rewrites old reserved c asked r new → AllThere m old → AllThere m new
    rewrites_there old new r (inl (fault, refused, is)) h = cpus_if (gives_way old reserved c asked) old new (Err fault) refused h
    rewrites_there old new r (inr (done, mid, first, second)) h =
        mems_if (moves_home c.demand asked) mid new r second (cpus_if (gives_way old reserved c asked) old mid (Ok done) first h)

    pub rewrite_states_there : (old new : KernelState) (r : Result (Unit {0}) KernelFault) (w : Rewrites old reserved c asked r new) → AllThere m old
        → AllByRecursion (AllThere m) (rewrite_states old reserved c asked r new w)
    rewrite_states_there old new r (inl (fault, refused, is)) h = cpus_states (gives_way old reserved c asked) old new (Err fault) refused h
    rewrite_states_there old new r (inr (done, mid, first, second)) h =
        all_append (AllThere m) (made_states (gives_way old reserved c asked) old (WritesCpus old c.group reserved) (Ok done) mid first)
        (made_states (moves_home c.demand asked) mid (WritesMems mid c.group asked.homes) r new second)
        (cpus_states (gives_way old reserved c asked) old mid (Ok done) first h)
        (mems_states (moves_home c.demand asked) mid new r second (cpus_if (gives_way old reserved c asked) old mid (Ok done) first h))

  -- a step of a hand-over
  none_of : (s : TreeState) (g : Group) → has_group s g ≡ false → requested_cpus s g ≡ set.empty
  none_of s g = by (entry_of s g) where
    by : (o : Option GroupEntry) → is_some o ≡ false → cpus_in o ≡ set.empty
    by None none = refl
    by (Some e) none = absurd (false≢true (sym none))

  written_there : (old : KernelState) (w : Write) → IsThere m w.cpus → AllThere m old → AllThere m (written old (Some w))
  written_there old w c h p = by (same_group w.group p) refl (has_group old.tree w.group) refl where
    asks : CpusRequested old.tree w.group w.cpus
    asks = writes_request.0 old.tree w.group w.cpus

    by : (b : Bool) → same_group w.group p ≡ b → (t : Bool) → has_group old.tree w.group ≡ t → IsThere m (requested_cpus (with_cpus old.tree w.group w.cpus) p)
    by true same true there = subst (IsThere m) (sym (ap (requested_cpus (with_cpus old.tree w.group w.cpus)) (sym (same_group-equal w.group p same)) ∙ asks.own there)) c
    by true same false none =
        subst (IsThere m) (sym (ap (requested_cpus (with_cpus old.tree w.group w.cpus)) (sym (same_group-equal w.group p same))
        ∙ none_of (with_cpus old.tree w.group w.cpus) w.group (asks.there w.group ∙ none))) none_there
    by false other t is = subst (IsThere m) (sym (asks.others p other)) (h p)

  abbrev pub WriteThere : Option Write → Type 0
  WriteThere o = IfSome o (λ w. IsThere m w.cpus)

  abbrev pub TargetThere : Entry → Type 0
  TargetThere e = IsThere m e.target

  some_written : (old : KernelState) (o : Option Write) → WriteThere o → AllThere m old → AllThere m (written old o)
  some_written old None c h = h
  some_written old (Some w) c h = written_there old w c h

  some_found : (test : Entry → Bool) (entries : List Entry) → AllByRecursion TargetThere entries → IfSome (find test entries) TargetThere
  some_found test entries all = by (find test entries) refl where
    by : (o : Option Entry) → find test entries ≡ o → IfSome o TargetThere
    by None is = tt
    by (Some e) is = find_among test TargetThere entries e all is

  module _ (k : KernelState) (reserved : Ids) (entries : List Entry) (res : IsThere m reserved) (online : IsThere m k.tree.online) (h : AllThere m k)
      (all : AllByRecursion TargetThere entries) where
    due_there : WriteThere (due_write k reserved entries)
    due_there = by (find (must_release k reserved) entries) (find (must_move k) entries) (some_found (must_move k) entries all) where
      by : (r move : Option Entry) → IfSome move TargetThere → WriteThere (first_write k reserved r move)
      by (Some e) move t = kept_there reserved e.target (held k e) res (h e.group)
      by None (Some e) t = t
      by None None t = tt

    way_there : (e : Entry) → IsThere m e.target → IsThere m (way k reserved entries e)
    way_there e t =
        both_there (set.difference (held k e) (set.difference (asked_of k reserved entries e) reserved)) (set.difference e.target (taken k entries e))
        (less_there (held k e) (set.difference (asked_of k reserved entries e) reserved) (h e.group)) (less_there e.target (taken k entries e) t)

    shared_there : (e : Entry) → IsThere m e.target → IsThere m (shared_way k reserved entries e)
    shared_there e t =
        cond_there (is_empty (set.intersection (way k reserved entries e) k.tree.online)) (set.union (way k reserved entries e) reserved) (way k reserved entries e)
        (both_there (way k reserved entries e) reserved (way_there e t) res) (way_there e t)

    squeezed_there : (e : Entry) → IsThere m e.target → IsThere m (squeezed k reserved entries e)
    squeezed_there e t = both_there (way k reserved entries e) reserved (way_there e t) res

    places_there : (allowed : Ids) (e : Entry) → IsThere m (places k reserved entries allowed e)
    places_there allowed e cpu has =
        let one = in_minus (set.intersection allowed (spare k reserved entries)) (asked_of k reserved entries e) cpu has in
        let two = in_meet allowed (spare k reserved entries) cpu one.0 in
        let three = in_minus (set.difference k.tree.online reserved) (all_of_those (λ d. is_alive k.table d.pid) (held k) entries) cpu two.1 in
        online cpu (in_minus k.tree.online reserved cpu three.0).0

    module _ (least : Least) (gives : (s : Ids) (count cpu : ℕ) → set.contains (least s count) cpu ≡ true → set.contains s cpu ≡ true) (allowed : Entry → Ids) where
      aside_there : (e : Entry) → IsThere m e.target → IsThere m (aside k reserved entries allowed least e)
      aside_there e t =
          let places_left : Ids = set.difference (places k reserved entries (allowed e) e) (way k reserved entries e) in
          let count : ℕ = cond (has_room k reserved entries e) (lacks k reserved entries e) (max (lacks k reserved entries e) 1) in
          both_there (way k reserved entries e) (least places_left count) (way_there e t)
          (λ cpu has. less_there (places k reserved entries (allowed e) e) (way k reserved entries e) (places_there (allowed e) e) cpu (gives places_left count cpu has))

      gets_there : (test : Entry → Bool) (cpus : Entry → Ids) → ((e : Entry) → IsThere m e.target → IsThere m (cpus e)) → WriteThere (gets test cpus entries)
      gets_there test cpus each = by (find test entries) (some_found test entries all) where
        by : (o : Option Entry) → IfSome o TargetThere → WriteThere (option_map (λ e. write_of e (cpus e)) o)
        by None t = tt
        by (Some e) t = each e t

      first_there : (writes : List (Option Write)) → AllByRecursion WriteThere writes → WriteThere (first_due writes)
      first_there [] each = tt
      first_there (Some w ∷ later) each = each.0
      first_there (None ∷ later) each = first_there later each.1

      abbrev writes : List (Option Write)
      writes =
          gets (is_new k reserved entries) (λ e. e.target) entries
          ∷ gets (is_mover k reserved entries) (λ e. e.target) entries
          ∷ gets (is_grower k reserved entries) (λ e. e.target) entries
          ∷ gets (shares k reserved entries) (shared_way k reserved entries) entries
          ∷ gets (steps_aside k reserved entries allowed least) (aside k reserved entries allowed least) entries
          ∷ gets (must_yield k reserved entries) (squeezed k reserved entries) entries
          ∷ gets (may_take k reserved entries) (λ e. e.target) entries
          ∷ []

      direct_there : WriteThere (direct_write k reserved entries allowed least)
      direct_there = first_there writes (
        gets_there (is_new k reserved entries) (λ e. e.target) (λ e t. t),
        (
          gets_there (is_mover k reserved entries) (λ e. e.target) (λ e t. t),
          (
            gets_there (is_grower k reserved entries) (λ e. e.target) (λ e t. t),
            (
              gets_there (shares k reserved entries) (shared_way k reserved entries) shared_there,
              (
                gets_there (steps_aside k reserved entries allowed least) (aside k reserved entries allowed least) aside_there,
                (
                  gets_there (must_yield k reserved entries) (squeezed k reserved entries) squeezed_there,
                  (gets_there (may_take k reserved entries) (λ e. e.target) (λ e t. t), tt),
                ),
              ),
            ),
          ),
        ),
      )

  first_within : (count : ℕ) (s : Ids) → set.is_subset (first_of count s) s ≡ true
  unfolding first_of
  first_within count s = contains-is_subset (first_of count s) s (λ q has.
      (both_of (set.contains s q) (nat_lt (count_below s q) count)
      (both_of (nat_lt q CPU_LIMIT) (set.contains s q && nat_lt (count_below s q) count)
      (sym (contains-those (λ c. set.contains s c && nat_lt (count_below s c) count) CPU_LIMIT q) ∙ has)).1).0)

  least_within : IsSound m → (s : Ids) (count cpu : ℕ) → set.contains (least_cores m s count) cpu ≡ true → set.contains s cpu ≡ true
  least_within sound s count cpu has =
      is_subset-contains (least_cores m s count) s
      (cpus_of_cores-within m (first_of (div_ceil count m.threads) (cores_in m s)) s sound.cores (first_within (div_ceil count m.threads) (cores_in m s))) cpu has

  pub step_there : (order : Order) (o : Ongoing) (old new : KernelState) (r : Result Progress KernelFault) → IsSound m → IsThere m o.targets.reserved
      → IsThere m old.tree.online → AllByRecursion TargetThere o.targets.entries → StepsBy order m o old r new → AllThere m old → AllThere m new
  step_there InTurn o old new (Ok answer) sound res online all steps h =
      subst (AllThere m) (sym steps.0)
      (some_written old (due_write old o.targets.reserved o.targets.entries) (due_there old o.targets.reserved o.targets.entries res online h all) h)
  step_there InTurn o old new (Err fault) sound res online all steps h = tree_same old new (ap (λ (k : KernelState). k.tree) steps.1) h
  step_there Directly o old new (Ok answer) sound res online all steps h =
      subst (AllThere m) (sym steps.0)
      (some_written old (direct_write old o.targets.reserved o.targets.entries (allowed_of (directed_of o)) (least_cores m))
      (direct_there old o.targets.reserved o.targets.entries res online h all (least_cores m) (least_within sound) (allowed_of (directed_of o))) h)
  step_there Directly o old new (Err fault) sound res online all steps h = tree_same old new (ap (λ (k : KernelState). k.tree) steps.1) h

  -- the same of one of the writes that are made all at once
  pub write_there : (order : Order) (o : Ongoing) (old new : KernelState) → IsSound m → IsThere m o.targets.reserved
      → IsThere m old.tree.online → AllByRecursion TargetThere o.targets.entries → WritesBy order m o old new → AllThere m old → AllThere m new
  write_there InTurn o old new sound res online all s h = step_there InTurn o old new (Ok More) sound res online all s h
  write_there Directly o old new sound res online all (w, inl t, is) h =
      let own : IsThere m t.e.target = find_among t.test TargetThere o.targets.entries t.e all t.found in
      subst (AllThere m) (sym is) (some_written old (Some w) (subst (λ (x : Write). IsThere m x.cpus) (sym t.is) own) h)
  write_there Directly o old new sound res online all (w, inr due, is) h =
      step_there Directly o old new (Ok (progress_of (due_directly (directed_of o) (least_cores m) new))) sound res online all (is ∙ ap (written old) (sym due), refl) h

  -- what a plan gives
  pub less_of : (sets : List Ids) (online : Ids) → IsThere m online → IsThere m (fold set.difference online sets)
  less_of [] online t = t
  less_of (s ∷ sets) online t = less_of sets (set.difference online s) (less_there online s t)

  front_there : (sets : List Ids) → AllByRecursion (IsThere m) sets → IsThere m (slice_index_or sets 0 set.empty) × AllByRecursion (IsThere m) (drop 1 sets)
  front_there [] all = (none_there, tt)
  front_there (s ∷ sets) all = (all.0, all.1)

  pub targets_there : (k : KernelState) (pool : Ids) → IsThere m pool → (containers : List (List ℕ × ContainerState)) (sets : List Ids) → AllByRecursion (IsThere m) sets
      → AllByRecursion TargetThere (map entry_of_target (targets_in k pool containers sets))
  targets_there k pool t [] sets all = tt
  targets_there k pool t (e ∷ later) sets all = by (λ ss rest. targets_there k pool t later ss rest) (is_live k e.1) (is_pinned e.1.demand.kind) where
    by : ((ss : List Ids) → AllByRecursion (IsThere m) ss → AllByRecursion TargetThere (map entry_of_target (targets_in k pool later ss))) → (live pinned : Bool) → AllByRecursion TargetThere (map entry_of_target
        (cond live (cond pinned ((e, slice_index_or sets 0 set.empty) ∷ targets_in k pool later (drop 1 sets)) ((e, pool) ∷ targets_in k pool later sets)) (targets_in k pool later sets)))
    by rest true true = ((front_there sets all).0, rest (drop 1 sets) (front_there sets all).1)
    by rest true false = (t, rest sets all)
    by rest false pinned = rest sets all

  -- a kernel on which nothing was done yet
  root_alone : (root : Group) (online nodes : Ids) (g : Group) → requested_cpus (first_tree root online nodes) g ≡ set.empty
  root_alone root online nodes g =
      elim (same_group root g) as (λ b. cpus_in (cond b (Some (new_entry root None [])) None) ≡ set.empty) [ true ↦ refl | false ↦ refl ]

  pub first_there_is : (reserved online nodes : Ids) (first_pid : ℕ) (k : KernelState) → IsFirstKernel (present m) reserved online nodes first_pid k → AllThere m k
  first_there_is reserved online nodes first_pid k first g =
      subst (λ (t : TreeState). IsThere m (requested_cpus t g)) (sym first.first_tree.is)
      (subst (IsThere m) (sym (root_alone first.first_tree.root online nodes g)) none_there)

  pub opened_there : (old new : KernelState) (parent : Group) (name : List ℕ) (r : Result Group (OrMemory KernelFault)) → FindsOrMakes old parent name r new → AllThere m old → AllThere m new
  opened_there old new parent name r f h = found_there (child_of old.tree parent name) old new parent name r f h

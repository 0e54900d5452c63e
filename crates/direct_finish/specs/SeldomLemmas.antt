-- How often the writes of a direct hand-over are of one container: what each of them leaves to be waited for is counted.
use Rattle.std.proofs.Common.{◌≡◌, ℕ, ◌+◌, ◌≤◌, Bool, true, false, cond, not, ◌&&◌, List, [], ◌∷◌, ◌++◌, length, refl, sym, ap, ◌∙◌, subst, arith}
use Rattle.std.proofs.lemmas.Bool.{false≢true}
use Rattle.std.specs.Prelude.{filter, find, Some, None, is_none, Result, Ok, Err}
use Rattle.std.specs.List.{AllByRecursion}
use Rattle.std.specs.FinSet as set
use Rattle.cpu_set.specs.Ids.{Ids}
use Rattle.cpu_set.specs.PointwiseLaws.{contains-intersection, contains-difference, contains-is_subset, is_subset-contains, is_same_decides}
use Rattle.cpuset_tree.specs.declared.Group.{Group}
use Rattle.cpuset_tree.specs.Groups.{same_group, requested_cpus}
use Rattle.cpuset_tree.specs.GroupLemmas.{same_group_sym, same_group_itself, same_group-equal}
use Rattle.proctable.specs.Processes.{is_alive}
use Rattle.kernel_model.specs.declared.KernelFault.{KernelFault}
use Rattle.kernel_model.specs.KernelState.{KernelState, writes}
use Rattle.apply_plan.specs.declared.Entry.{Entry}
use Rattle.apply_plan.specs.declared.scan.Write.{Write}
use Rattle.apply_plan.specs.Holders.{Pairwise}
use Rattle.apply_plan.specs.Targets.{HaveOtherGroups, IsHandover, IsPlaced, ArePlaced}
use Rattle.apply_plan.specs.DueWrite.{held, must_move, written}
use Rattle.apply_plan.specs.DueLemmas.{holds_its_target}
use Rattle.apply_plan.specs.ListLemmas.{all_map, all_map2, all_of, find_among, find_none, find_passes, found_alone, none_found}
use Rattle.apply_plan.specs.WriteLemmas.{IsWrite, by_test}
use Rattle.apply_plan.specs.KernelFactLemmas.{with_request, is_write, made_is_placed}
use Rattle.apply_plan.specs.DirectWords.{has_own, holds_some, are_free, lets_go, blocks, spare}
use Rattle.apply_plan.specs.Rings.{rings_stand}
use Rattle.apply_plan.specs.MayWrite.{waits_for, times_written}
use Rattle.apply_plan.specs.Directed.{Directed, allowed_of, Least, Serves}
use Rattle.apply_plan.specs.OnWay.{Makes}
use Rattle.apply_plan.specs.DirectWrite.{is_mover, must_yield, shares, steps_aside}
use Rattle.apply_plan.specs.DirectCaseLemmas.{Direct, Takes, Shares, StepsAside, IsSqueezed, NoneGoes}
use Rattle.apply_plan.specs.DirectLemmas.{both_of, both, num, own_none, lets_moves, blocking_lets, each_waits_for_less}
use Rattle.direct_finish.specs.FinishesDirectly.{MayFollow, Follow, after, FinishesDirectly, asked_for}
use Rattle.direct_finish.specs.FollowLemmas.{follow_on, after_both}
use Rattle.direct_finish.specs.FinishLemmas.{is_direct, may_make}
use Rattle.direct_finish.specs.SeldomWritten.{IsSeldomWritten, FinishesWriteSeldom, WithoutRings, FinishesWriteOnce}

-- one write more
times_first : (g : Group) (w : Write) (later : List Write) → times_written g (w ∷ later) ≡ num (same_group w.group g) + times_written g later
times_first g w later = by (same_group w.group g) where
  by : (b : Bool) → length (cond b (w ∷ filter (λ x. same_group x.group g) later) (filter (λ x. same_group x.group g) later))
      ≡ num b + length (filter (λ x. same_group x.group g) later)
  by true = omega arith
  by false = omega arith

-- each entry is found by its group
found_each : (xs : List Entry) → Pairwise HaveOtherGroups xs → AllByRecursion (λ a. find (λ x. same_group a.group x.group) xs ≡ Some a) xs
found_each [] h = tt
found_each (x ∷ xs) h = (
  ap (λ b. cond b (Some x) (find (λ y. same_group x.group y.group) xs)) (same_group_itself x.group),
  all_map2 (λ a. HaveOtherGroups x a) (λ a. find (λ y. same_group a.group y.group) xs ≡ Some a) (λ a. find (λ y. same_group a.group y.group) (x ∷ xs) ≡ Some a)
      (λ a other found. ap (λ b. cond b (Some x) (find (λ y. same_group a.group y.group) xs)) (same_group_sym a.group x.group ∙ other) ∙ found) xs h.0 (found_each xs h.1),
)

module _ (d : Directed) (valid : IsHandover d.targets) (least : Least) (serves : Serves d least) where
  abbrev entries : List Entry
  entries = d.targets.entries

  abbrev reserved : Ids
  reserved = d.targets.reserved

  abbrev waits : KernelState → Entry → ℕ
  waits k a = waits_for k reserved entries a

  abbrev Followed : KernelState → List Write → Type 0
  Followed k ws = Follow (MayFollow d least) k ws

  -- the write that fails is one of those that may follow
  all_follow : (old : KernelState) (r : Result (Unit {0}) KernelFault) (new : KernelState) (f : FinishesDirectly d least old r new)
      → Followed old (asked_for d least old r new f)
  all_follow old (Ok _) new f = f.follow
  all_follow old (Err fault) new f = follow_on (MayFollow d least) f.writes (f.ends.1.0 ∷ []) old f.follow (f.ends.1.1, tt)

  module _ (k : KernelState) (w : Write) (placed : ArePlaced k entries) (follows : MayFollow d least k w) where
    abbrev next : KernelState
    next = written k (Some w)

    its : Makes d k w
    its = may_make d valid least serves k w follows

    still_placed : ArePlaced next entries
    still_placed = made_is_placed k next (Some w) (Ok tt) refl entries placed

    less : AllByRecursion (λ a. waits next a + num (same_group w.group a.group) ≤ waits k a) entries
    less =
        subst (λ (x : Write). AllByRecursion (λ a. waits (written k (Some x)) a + num (same_group x.group a.group) ≤ waits k a) entries) (sym its.is)
        (each_waits_for_less d.targets k its.test its.e its.cpus valid placed its.found its.may)

    missed : (g : Group) → AllByRecursion (λ e. same_group e.group g ≡ false) entries → same_group w.group g ≡ false
    missed g apart = ap (λ (x : Write). same_group x.group g) its.is ∙ find_among its.test (λ e. same_group e.group g ≡ false) entries its.e apart its.found

    is_there : IsPlaced k w.group
    is_there = subst (λ (x : Write). IsPlaced k x.group) (sym its.is) (find_among its.test (λ e. IsPlaced k e.group) entries its.e placed its.found)

    wrote : IsWrite k next w.group w.cpus
    wrote = is_write k w.group w.cpus is_there.there

  -- no container is written more often than it waits for
  seldom : (ws : List Write) (k : KernelState) → Followed k ws → ArePlaced k entries → AllByRecursion (λ a. times_written a.group ws ≤ waits k a) entries
  seldom [] k follow placed = all_of (λ a. times_written a.group [] ≤ waits k a) (λ a. omega arith) entries
  seldom (w ∷ later) k follow placed =
      all_map2 (λ a. waits (written k (Some w)) a + num (same_group w.group a.group) ≤ waits k a) (λ a. times_written a.group later ≤ waits (written k (Some w)) a)
      (λ a. times_written a.group (w ∷ later) ≤ waits k a)
      (λ a falls rest.
      let first : times_written a.group (w ∷ later) ≡ num (same_group w.group a.group) + times_written a.group later = times_first a.group w later in
      let one : waits (written k (Some w)) a + num (same_group w.group a.group) ≤ waits k a = falls in
      let others : times_written a.group later ≤ waits (written k (Some w)) a = rest in
      omega (arith, first, one, others)) entries
      (less k w placed follow.0) (seldom later (written k (Some w)) follow.1 (still_placed k w placed follow.0))

  never : (g : Group) → AllByRecursion (λ e. same_group e.group g ≡ false) entries → (ws : List Write) (k : KernelState) → Followed k ws → ArePlaced k entries
      → times_written g ws ≡ 0
  never g apart [] k follow placed = refl
  never g apart (w ∷ later) k follow placed =
      let first : times_written g (w ∷ later) ≡ num (same_group w.group g) + times_written g later = times_first g w later in
      let none : num (same_group w.group g) ≡ 0 = ap num (missed k w placed follow.0 g apart) in
      let rest : times_written g later ≡ 0 = never g apart later (written k (Some w)) follow.1 (still_placed k w placed follow.0) in
      omega (arith, first, none, rest)

  -- one of the entries
  module _ (a : Entry) (found : find (λ x. same_group a.group x.group) entries ≡ Some a) where
    abbrev itself : Entry → Bool
    itself x = same_group a.group x.group

    of_all : (P : Entry → Type 0) → AllByRecursion P entries → P a
    of_all P all = find_among itself P entries a all found

    -- another one that is found with its group is it
    is_it : (test : Entry → Bool) (e : Entry) → find test entries ≡ Some e → same_group e.group a.group ≡ true → e ≡ a
    is_it test e at same =
        find_among test (λ x. same_group a.group x.group ≡ true → x ≡ a) entries e
        (found_alone itself (λ x y. same_group x.group y.group) (λ x y. same_group_sym x.group y.group) entries a valid.groups found) at
        (same_group_sym a.group e.group ∙ same)

    module _ (k : KernelState) (placed : ArePlaced k entries) where
      blocking : blocks k reserved entries a ≡ true → lets_go k reserved a ≡ true
      blocking blocked =
          blocking_lets k (with_request k a.group (held k a)) d.targets valid a (held k a)
          (is_write k a.group (held k a) (of_all (λ x. IsPlaced k x.group) placed).there) itself found blocked

      -- one that lets nothing go blocks nobody
      blocks_none : lets_go k reserved a ≡ false → num (blocks k reserved entries a) ≡ 0
      blocks_none off = by_test (blocks k reserved entries a) (λ on. absurd (false≢true (sym off ∙ blocking on))) (λ none. ap num none)

      lets_none : set.is_subset (set.difference (held k a) a.target) reserved ≡ true → lets_go k reserved a ≡ false
      lets_none sub = ap (λ b. is_alive k.table a.pid && not b) sub ∙ none_of_it (is_alive k.table a.pid) where
        none_of_it : (x : Bool) → (x && false) ≡ false
        none_of_it true = refl
        none_of_it false = refl

      one_at_most : (x : Bool) → num x ≤ 1
      one_at_most true = omega arith
      one_at_most false = omega arith

      waits_once : set.is_subset (set.difference (held k a) a.target) reserved ≡ true → waits k a ≤ 1
      waits_once sub =
          let none : num (blocks k reserved entries a) ≡ 0 = blocks_none (lets_none sub) in
          let one : num (must_move k a) ≤ 1 = one_at_most (must_move k a) in
          omega (arith, none, one)

      waits_twice : waits k a ≤ 2
      waits_twice =
          let b : num (blocks k reserved entries a) ≤ 1 = one_at_most (blocks k reserved entries a) in
          let m : num (must_move k a) ≤ 1 = one_at_most (must_move k a) in
          omega (arith, b, m)

      nothing_more : held k a ≡ a.target → set.is_subset (set.difference (held k a) a.target) reserved ≡ true
      nothing_more is = contains-is_subset (set.difference (held k a) a.target) reserved (λ cpu has.
          absurd (false≢true (sym (neither (set.contains a.target cpu)
          (ap (λ s. set.contains s cpu && not (set.contains a.target cpu)) (sym is) ∙ sym (contains-difference (held k a) a.target cpu) ∙ has))))) where
            neither : (x : Bool) → (x && not x) ≡ true → true ≡ false
            neither true m = sym m
            neither false m = sym m

      waits_never : held k a ≡ a.target → waits k a ≡ 0
      waits_never is =
          let none : num (blocks k reserved entries a) ≡ 0 = blocks_none (lets_none (nothing_more is)) in
          let stays : num (must_move k a) ≡ 0 = ap num (holds_its_target k a ((is_same_decides _ _).1 is)) in
          omega (arith, none, stays)

      -- one that only lets go has its target free, and takes it
      module _ (sub : set.is_subset a.target (held k a) ≡ true) where
        lacks_nothing : (e : Entry) → has_own reserved (set.intersection (set.difference a.target (held k a)) (held k e)) ≡ false
        lacks_nothing e = own_none reserved (set.intersection (set.difference a.target (held k a)) (held k e)) (λ cpu has.
            let lacked = (both_of (set.contains (set.difference a.target (held k a)) cpu) (set.contains (held k e) cpu)
            (sym (contains-intersection (set.difference a.target (held k a)) (held k e) cpu) ∙ has)).0 in
            let own = both_of (set.contains a.target cpu) (not (set.contains (held k a) cpu)) (sym (contains-difference a.target (held k a) cpu) ∙ lacked) in
            absurd (false≢true (sym (ap not (is_subset-contains a.target (held k a) sub cpu own.0)) ∙ own.1)))

        free : are_free k reserved entries a a.target ≡ true
        free = ap is_none (none_found (holds_some k reserved a (set.difference a.target (held k a))) entries
            (all_of (λ e. holds_some k reserved a (set.difference a.target (held k a)) e ≡ false) (λ e. off _ _ (lacks_nothing e)) entries))
          where
            off : (x y : Bool) → y ≡ false → (x && y) ≡ false
            off true y e = e
            off false y e = refl

        moves_on : lets_go k reserved a ≡ true → is_mover k reserved entries a ≡ true
        moves_on lets =
            both _ _ lets
            (both _ _ (both _ _ (lets_moves k reserved a lets) free)
            (ap (λ b. not (not b && (set.is_subset (spare k reserved entries) a.target && rings_stand k reserved entries))) lets))

        -- so it need not yield
        need_not : NoneGoes k reserved entries → blocks k reserved entries a ≡ true → ⊥
        need_not none blocked =
            false≢true (sym (of_all (λ x. is_mover k reserved entries x ≡ false) (find_none (is_mover k reserved entries) entries none.no_mover)) ∙ moves_on (blocking blocked))

        takes_it : (w : Write) → Direct d least k (Some w) → same_group w.group a.group ≡ true → w.cpus ≡ a.target
        takes_it w (Takes test e at may) same = ap (λ (x : Entry). x.target) (is_it test e at same)
        takes_it w (Shares e none at) same =
            let yields = (both_of (not e.pinned) (must_yield k reserved entries e) (find_passes (shares k reserved entries) entries e at)).1 in
            absurd (need_not none (ap (blocks k reserved entries) (sym (is_it (shares k reserved entries) e at same)) ∙ (both_of (blocks k reserved entries e) _ yields).0))
        takes_it w (StepsAside e none no_share at) same =
            let aside = (both_of e.pinned _ (find_passes (steps_aside k reserved entries (allowed_of d) least) entries e at)).1 in
            let yields = (both_of (must_yield k reserved entries e) _ aside).0 in
            absurd (need_not none (ap (blocks k reserved entries) (sym (is_it (steps_aside k reserved entries (allowed_of d) least) e at same))
            ∙ (both_of (blocks k reserved entries e) _ yields).0))
        takes_it w (IsSqueezed e none no_share no_aside at) same =
            let yields = find_passes (must_yield k reserved entries) entries e at in
            absurd (need_not none (ap (blocks k reserved entries) (sym (is_it (must_yield k reserved entries) e at same)) ∙ (both_of (blocks k reserved entries e) _ yields).0))

    -- where a write gives it its target, none behind it is of it
    module _ (w : Write) (later : List Write) (k : KernelState) (follow : Followed k (w ∷ later)) (placed : ArePlaced k entries) where
      abbrev now : KernelState
      now = written k (Some w)

      there : ArePlaced now entries
      there = still_placed k w placed follow.0

      first : times_written a.group (w ∷ later) ≡ num (same_group w.group a.group) + times_written a.group later
      first = times_first a.group w later

      mine : w.cpus ≡ a.target → same_group w.group a.group ≡ true → times_written a.group (w ∷ later) ≤ 1
      mine takes same =
          let has : held now a ≡ a.target = ap (requested_cpus now.tree) (sym (same_group-equal w.group a.group same)) ∙ (wrote k w placed follow.0).own ∙ takes in
          let rest : times_written a.group later ≤ waits now a = of_all (λ x. times_written x.group later ≤ waits now x) (seldom later now follow.1 there) in
          let none : waits now a ≡ 0 = waits_never now there has in
          let one : num (same_group w.group a.group) ≡ 1 = ap num same in
          omega (arith, first, rest, none, one)

      stays : same_group w.group a.group ≡ false → held now a ≡ held k a
      stays other = (wrote k w placed follow.0).others a.group other

      another : same_group w.group a.group ≡ false → times_written a.group later ≤ 1 → times_written a.group (w ∷ later) ≤ 1
      another other rest =
          let none : num (same_group w.group a.group) ≡ 0 = ap num other in
          omega (arith, first, rest, none)

    -- so one that only lets go is written once at most
    shrinks_once : (ws : List Write) (k : KernelState) → Followed k ws → ArePlaced k entries → set.is_subset a.target (held k a) ≡ true → times_written a.group ws ≤ 1
    shrinks_once [] k follow placed sub = omega arith
    shrinks_once (w ∷ later) k follow placed sub =
        by_test (same_group w.group a.group)
        (λ same. mine w later k follow placed (takes_it k placed sub w (is_direct d valid least serves k w follow.0) same) same)
        (λ other. another w later k follow placed other
        (shrinks_once later (written k (Some w)) follow.1 (there w later k follow placed) (ap (set.is_subset a.target) (stays w later k follow placed other) ∙ sub)))

    -- where nobody has to yield, each write gives a container its target
    module _ (k : KernelState) (none : find (must_yield k reserved entries) entries ≡ None) where
      yields_not : (test : Entry → Bool) (e : Entry) → find test entries ≡ Some e → must_yield k reserved entries e ≡ true → ⊥
      yields_not test e at yields =
          false≢true (sym (find_among test (λ x. must_yield k reserved entries x ≡ false) entries e (find_none (must_yield k reserved entries) entries none) at) ∙ yields)

      takes_only : (w : Write) → Direct d least k (Some w) → same_group w.group a.group ≡ true → w.cpus ≡ a.target
      takes_only w (Takes test e at may) same = ap (λ (x : Entry). x.target) (is_it test e at same)
      takes_only w (Shares e no_go at) same =
          absurd (yields_not (shares k reserved entries) e at (both_of (not e.pinned) (must_yield k reserved entries e) (find_passes (shares k reserved entries) entries e at)).1)
      takes_only w (StepsAside e no_go no_share at) same =
          absurd (yields_not (steps_aside k reserved entries (allowed_of d) least) e at
          (both_of (must_yield k reserved entries e) _ (both_of e.pinned _ (find_passes (steps_aside k reserved entries (allowed_of d) least) entries e at)).1).0)
      takes_only w (IsSqueezed e no_go no_share no_aside at) same =
          absurd (yields_not (must_yield k reserved entries) e at (find_passes (must_yield k reserved entries) entries e at))

    once : (ws : List Write) (k : KernelState) → Followed k ws → ArePlaced k entries → WithoutRings d k ws → times_written a.group ws ≤ 1
    once [] k follow placed no_rings = omega arith
    once (w ∷ later) k follow placed no_rings =
        by_test (same_group w.group a.group)
        (λ same. mine w later k follow placed (takes_only k no_rings.0 w (is_direct d valid least serves k w follow.0) same) same)
        (λ other. another w later k follow placed other (once later (written k (Some w)) follow.1 (there w later k follow placed) no_rings.1))

    is_seldom : (ws : List Write) (k : KernelState) → Followed k ws → ArePlaced k entries → times_written a.group ws ≤ waits k a → IsSeldomWritten k reserved ws a
    is_seldom ws k follow placed most = record {
      stays = λ is. (let none : waits k a ≡ 0 = waits_never k placed is in omega (arith, most, none));
      grows = λ sub. (let one : waits k a ≤ 1 = waits_once k placed sub in omega (arith, most, one));
      shrinks = shrinks_once ws k follow placed;
      most = (let two : waits k a ≤ 2 = waits_twice k placed in omega (arith, most, two));
    }

  -- the kernel counts each of them
  counted : (ws : List Write) (k : KernelState) → writes (after k ws) ≡ writes k + length ws
  counted [] k = omega arith
  counted (w ∷ later) k =
      let rest : writes (after k (w ∷ later)) ≡ writes (written k (Some w)) + length later = counted later (written k (Some w)) in
      let one : writes (written k (Some w)) ≡ writes k + 1 = omega arith in
      omega (arith, rest, one)

  all_counted : (old : KernelState) (r : Result (Unit {0}) KernelFault) (new : KernelState) (f : FinishesDirectly d least old r new)
      → writes new ≡ writes old + length (asked_for d least old r new f)
  all_counted old (Ok _) new f = ap writes f.ends.0 ∙ counted f.writes old
  all_counted old (Err fault) new f =
      ap writes f.ends.1.2
      ∙ ap writes (sym (after_both (MayFollow d least) f.writes (f.ends.1.0 ∷ []) old)) ∙ counted (f.writes ++ f.ends.1.0 ∷ []) old

pub finishes_write_seldom : FinishesWriteSeldom
finishes_write_seldom d least old r new valid serves placed f = record {
  all = all_counted d valid least serves old r new f;
  each = all_map2 (λ a. find (λ x. same_group a.group x.group) d.targets.entries ≡ Some a)
      (λ a. times_written a.group ws ≤ waits_for old d.targets.reserved d.targets.entries a) (IsSeldomWritten old d.targets.reserved ws)
      (λ a found most. is_seldom d valid least serves a found ws old follow placed most) d.targets.entries (found_each d.targets.entries valid.groups)
      (seldom d valid least serves ws old follow placed);
  others = λ g apart. never d valid least serves g apart ws old follow placed;
} where
  ws : List Write
  ws = asked_for d least old r new f

  follow : Follow (MayFollow d least) old ws
  follow = all_follow d valid least serves old r new f

pub finishes_write_once : FinishesWriteOnce
finishes_write_once d least old r new valid serves placed f no_rings =
    all_map (λ a. find (λ x. same_group a.group x.group) d.targets.entries ≡ Some a) (λ a. times_written a.group (asked_for d least old r new f) ≤ 1)
    (λ a found. once d valid least serves a found (asked_for d least old r new f) old (all_follow d valid least serves old r new f) placed no_rings) d.targets.entries
    (found_each d.targets.entries valid.groups)

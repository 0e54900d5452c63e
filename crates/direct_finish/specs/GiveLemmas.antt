-- What is left when one container gave way in a ring, and what live ones hold together after a write of a pinned one.
use Rattle.std.proofs.Common.{◌≡◌, ℕ, ◌+◌, ◌<◌, ◌≤◌, length, get_or, Bool, true, false, ◌&&◌, ◌||◌, List, refl, sym, ap, ◌∙◌, inr}
use Rattle.std.proofs.lemmas.Bool.{false≢true}
use Rattle.std.specs.Prelude.{find, Option, Some, None, Ok}
use Rattle.std.specs.List.{AllByRecursion}
use Rattle.std.specs.FinSet as set
use Rattle.cpu_set.specs.Ids.{Ids}
use Rattle.cpu_set.specs.PointwiseLaws.{is_same_decides}
use Rattle.cpuset_tree.specs.Groups.{same_group, requested_cpus}
use Rattle.cpuset_tree.specs.GroupLemmas.{same_group_itself}
use Rattle.proctable.specs.Processes.{is_alive}
use Rattle.kernel_model.specs.KernelState.{KernelState}
use Rattle.apply_plan.specs.declared.Entry.{Entry}
use Rattle.apply_plan.specs.declared.overview.Overview.{Overview}
use Rattle.apply_plan.specs.declared.giving.Giving.{Giving}
use Rattle.apply_plan.specs.Holders.{AreApart, IsSafe}
use Rattle.apply_plan.specs.Targets.{holder_of, holders_of, IsHandover, IsPlaced, ArePlaced}
use Rattle.apply_plan.specs.DueWrite.{held, must_move, written}
use Rattle.apply_plan.specs.DueLemmas.{holds_its_target}
use Rattle.apply_plan.specs.ListLemmas.{all_map2, find_among, of_pairs_map}
use Rattle.apply_plan.specs.WriteLemmas.{IsWrite, ApartAs, apart_swap, by_test}
use Rattle.apply_plan.specs.KernelFactLemmas.{is_write, made_is_placed}
use Rattle.apply_plan.specs.DirectWords.{has_own, lets_go}
use Rattle.apply_plan.specs.MayWrite.{write_of, left_directly}
use Rattle.apply_plan.specs.Directed.{Directed, allowed_of, Least, Serves}
use Rattle.apply_plan.specs.DirectedLemmas.{found_at}
use Rattle.apply_plan.specs.DirectWrite.{due_directly}
use Rattle.apply_plan.specs.DirectStepLemmas.{made_safe, made_lowers}
use Rattle.apply_plan.specs.DirectLemmas.{both_of, found_pairs}
use Rattle.apply_plan.specs.SetMemberLaws.{in_minus, in_union, minus_has, union_left, union_right, in_all, of_all, one_of_two}
use Rattle.apply_plan.specs.Overviews.{all_held}
use Rattle.apply_plan.specs.OverviewLemmas.{same_answers}
use Rattle.apply_plan.specs.Turns.{gets_by}
use Rattle.apply_plan.specs.TurnLemmas.{is_alone}
use Rattle.direct_finish.specs.declared.bounds.Bounds.{Bounds}
use Rattle.direct_finish.specs.Bounded.{IsBounded, AreBounded, own_of}
use Rattle.direct_finish.specs.FinishesDirectly.{MayFollow}
use Rattle.direct_finish.specs.FinishLemmas.{may_make}
use Rattle.direct_finish.specs.Follows.{IsReady}
use Rattle.direct_finish.specs.declared.standing.Standing.{Standing}
use Rattle.direct_finish.specs.declared.standing.Standing.TheVariants.{Rests, Moved}
use Rattle.direct_finish.specs.Seen.{AreAlike, IsHeldNow, IsStanding, IsNextGiving, IsCalm, IsUnderWay, next_held}
use Rattle.direct_finish.specs.SeenLemmas.{IsGivenWay, given_way, seen_after}

-- a live pinned one is written
module _ (d : Directed) (valid : IsHandover d.targets) (old new : KernelState) (placed : ArePlaced old d.targets.entries) (safe : IsSafe old d.targets.reserved (holders_of d.targets.entries))
    (place : ℕ) (e : Entry) (within : place < length d.targets.entries) (at : e ≡ get_or d.targets.entries place e) (pinned : e.pinned ≡ true) (live : is_alive old.table e.pid ≡ true)
    (cpus : Ids) (w : IsWrite old new e.group cpus) (before : Ids) (is_held : before ≡ held old e) where
  abbrev itself : Entry → Bool
  itself a = same_group e.group a.group

  found : find itself d.targets.entries ≡ Some e
  found = found_at d.targets.entries place e valid.groups within at

  alone : AllByRecursion (λ a. same_group e.group a.group ≡ true → a ≡ e) d.targets.entries
  alone = is_alone d.targets.entries d.targets.reserved valid e found

  -- the others are apart from it
  apart : AllByRecursion (λ a. same_group e.group a.group ≡ false → ApartAs old d.targets.reserved e a) d.targets.entries
  apart = found_pairs itself (λ a c. same_group a.group c.group) (λ a. same_group_itself a.group) (ApartAs old d.targets.reserved) (λ a c. apart_swap old d.targets.reserved a c) d.targets.entries e
      (of_pairs_map holder_of (AreApart old d.targets.reserved (requested_cpus old.tree)) d.targets.entries safe.apart) found

  both_known : AllByRecursion (λ a. (same_group e.group a.group ≡ true → a ≡ e) × (same_group e.group a.group ≡ false → ApartAs old d.targets.reserved e a)) d.targets.entries
  both_known =
      all_map2 (λ a. same_group e.group a.group ≡ true → a ≡ e) (λ a. same_group e.group a.group ≡ false → ApartAs old d.targets.reserved e a)
      (λ a. (same_group e.group a.group ≡ true → a ≡ e) × (same_group e.group a.group ≡ false → ApartAs old d.targets.reserved e a)) (λ a x y. (x, y)) d.targets.entries alone apart

  lives : (a : Entry) → is_alive new.table a.pid ≡ true → is_alive old.table a.pid ≡ true
  lives a l = ap (λ t. is_alive t a.pid) (sym w.table) ∙ l

  -- what another live one holds outside the reserved CPUs, it did not hold
  not_its : (a : Entry) → (same_group e.group a.group ≡ false → ApartAs old d.targets.reserved e a) → same_group e.group a.group ≡ false → is_alive old.table a.pid ≡ true
      → (q : ℕ) → set.contains (held old a) q ≡ true → set.contains d.targets.reserved q ≡ false → set.contains before q ≡ false
  not_its a far other l q m out = by_test (set.contains before q)
      (λ own. absurd (false≢true (sym out ∙ far other live l (ap (λ p. p || a.pinned) pinned) q (ap (λ s. set.contains s q) (sym is_held) ∙ own) m)))
      (λ off. off)

  -- what live ones hold then
  module _ (s more : Ids) (alike : AreAlike d.targets.reserved s (all_held old d.targets.reserved d.targets.entries)) (is : more ≡ set.union (set.difference s before) cpus) where
    pub held_after : AreAlike d.targets.reserved more (all_held new d.targets.reserved d.targets.entries)
    held_after q out = ap (λ x. set.contains x q) is ∙ same_answers (set.contains (set.union (set.difference s before) cpus) q) (set.contains (all_held new d.targets.reserved d.targets.entries) q)
        (λ m. one_of_two (in_union (set.difference s before) cpus q m)
        (λ stayed. let parts = in_minus s before q stayed in
        of_all (λ a. is_alive old.table a.pid) (held old) q (set.contains (all_held new d.targets.reserved d.targets.entries) q) d.targets.entries
        (all_map2 (λ a. same_group e.group a.group ≡ true → a ≡ e) (λ a. is_alive new.table a.pid ≡ true → (q : ℕ) → set.contains (held new a) q ≡ true → set.contains (all_held new d.targets.reserved d.targets.entries) q ≡ true)
        (λ a. is_alive old.table a.pid ≡ true → set.contains (held old a) q ≡ true → set.contains (all_held new d.targets.reserved d.targets.entries) q ≡ true)
        (still parts.1) d.targets.entries alone (in_all (λ a. is_alive new.table a.pid) (held new) d.targets.entries)) (sym (alike q out) ∙ parts.0))
        (λ came. find_among itself (λ a. is_alive new.table a.pid ≡ true → (q : ℕ) → set.contains (held new a) q ≡ true → set.contains (all_held new d.targets.reserved d.targets.entries) q ≡ true)
        d.targets.entries e (in_all (λ a. is_alive new.table a.pid) (held new) d.targets.entries) found (ap (λ t. is_alive t e.pid) w.table ∙ live) q (ap (λ x. set.contains x q) w.own ∙ came)))
        (λ m. of_all (λ a. is_alive new.table a.pid) (held new) q (set.contains (set.union (set.difference s before) cpus) q) d.targets.entries
        (all_map2 (λ a. (same_group e.group a.group ≡ true → a ≡ e) × (same_group e.group a.group ≡ false → ApartAs old d.targets.reserved e a))
        (λ a. is_alive old.table a.pid ≡ true → (q : ℕ) → set.contains (held old a) q ≡ true → set.contains (all_held old d.targets.reserved d.targets.entries) q ≡ true)
        (λ a. is_alive new.table a.pid ≡ true → set.contains (held new a) q ≡ true → set.contains (set.union (set.difference s before) cpus) q ≡ true)
        has d.targets.entries both_known (in_all (λ a. is_alive old.table a.pid) (held old) d.targets.entries)) m)
      where
        still : set.contains before q ≡ false → (a : Entry) → (same_group e.group a.group ≡ true → a ≡ e)
            → (is_alive new.table a.pid ≡ true → (q : ℕ) → set.contains (held new a) q ≡ true → set.contains (all_held new d.targets.reserved d.targets.entries) q ≡ true)
            → is_alive old.table a.pid ≡ true → set.contains (held old a) q ≡ true → set.contains (all_held new d.targets.reserved d.targets.entries) q ≡ true
        still off a it inside l m = by_test (same_group e.group a.group)
            (λ same. absurd (false≢true (sym off ∙ ap (λ x. set.contains x q) is_held ∙ ap (λ (z : Entry). set.contains (held old z) q) (sym (it same)) ∙ m)))
            (λ other. inside (ap (λ t. is_alive t a.pid) w.table ∙ l) q (ap (λ x. set.contains x q) (w.others a.group other) ∙ m))

        has : (a : Entry) → (same_group e.group a.group ≡ true → a ≡ e) × (same_group e.group a.group ≡ false → ApartAs old d.targets.reserved e a)
            → (is_alive old.table a.pid ≡ true → (q : ℕ) → set.contains (held old a) q ≡ true → set.contains (all_held old d.targets.reserved d.targets.entries) q ≡ true)
            → is_alive new.table a.pid ≡ true → set.contains (held new a) q ≡ true → set.contains (set.union (set.difference s before) cpus) q ≡ true
        has a x inside l m = by_test (same_group e.group a.group)
            (λ same. union_right (set.difference s before) cpus q (ap (λ c. set.contains c q) (sym w.own) ∙ ap (λ (z : Entry). set.contains (held new z) q) (sym (x.0 same)) ∙ m))
            (λ other.
            let there : set.contains (held old a) q ≡ true = ap (λ c. set.contains c q) (sym (w.others a.group other)) ∙ m in
            union_left (set.difference s before) cpus q (minus_has s before q (alike q out ∙ inside (lives a l) q there) (not_its a x.1 other (lives a l) q there out)))

  -- the bounds hold with what it holds now in place of what it held
  module _ (b after : Bounds) (bounded : AreBounded old d.targets.reserved d.targets.entries b) (own : Ids) (is_own : own ≡ set.difference cpus d.targets.reserved)
      (all_is : after.held ≡ set.union (set.difference b.held before) own) (pinned_is : own_of after ≡ set.union (set.difference (own_of b) before) own) where
    gained : (s : Ids) (q : ℕ) → set.contains cpus q ≡ true → set.contains d.targets.reserved q ≡ false → set.contains (set.union s own) q ≡ true
    gained s q m free = union_right s own q (ap (λ x. set.contains x q) is_own ∙ minus_has cpus d.targets.reserved q m free)

    one : (a : Entry) → (same_group e.group a.group ≡ true → a ≡ e) × (same_group e.group a.group ≡ false → ApartAs old d.targets.reserved e a) → IsBounded old d.targets.reserved b a
        → IsBounded new d.targets.reserved after a
    one a x bound = by_test (same_group e.group a.group)
        (λ same.
        let mine : (q : ℕ) → set.contains (held new a) q ≡ true → set.contains cpus q ≡ true =
        λ q m. ap (λ c. set.contains c q) (sym w.own) ∙ ap (λ (z : Entry). set.contains (held new z) q) (sym (x.0 same)) ∙ m in
        record {
          all = λ lets q m free. ap (λ c. set.contains c q) all_is ∙ gained (set.difference b.held before) q (mine q m) free;
          own = λ lets p q m free. ap (λ c. set.contains c q) pinned_is ∙ gained (set.difference (own_of b) before) q (mine q m) free;
        })
        (λ other.
        let there : (q : ℕ) → set.contains (held new a) q ≡ true → set.contains (held old a) q ≡ true = λ q m. ap (λ c. set.contains c q) (sym (w.others a.group other)) ∙ m in
        let let_go : lets_go new d.targets.reserved a ≡ true → lets_go old d.targets.reserved a ≡ true =
        λ lets. ap (λ c. is_alive old.table a.pid && has_own d.targets.reserved (set.difference c a.target)) (sym (w.others a.group other))
        ∙ ap (λ t. is_alive t a.pid && has_own d.targets.reserved (set.difference (held new a) a.target)) (sym w.table) ∙ lets in
        let alive : lets_go new d.targets.reserved a ≡ true → is_alive old.table a.pid ≡ true =
        λ lets. (both_of (is_alive old.table a.pid) (has_own d.targets.reserved (set.difference (held old a) a.target)) (let_go lets)).0 in
        record {
          all = λ lets q m free.
              ap (λ c. set.contains c q) all_is
              ∙ union_left (set.difference b.held before) own q
              (minus_has b.held before q (bound.all (let_go lets) q (there q m) free) (not_its a x.1 other (alive lets) q (there q m) free));
          own = λ lets p q m free.
              ap (λ c. set.contains c q) pinned_is
              ∙ union_left (set.difference (own_of b) before) own q
              (minus_has (own_of b) before q (bound.own (let_go lets) p q (there q m) free) (not_its a x.1 other (alive lets) q (there q m) free));
        })

    pub bounded_after : AreBounded new d.targets.reserved d.targets.entries after
    bounded_after =
        all_map2 (λ a. (same_group e.group a.group ≡ true → a ≡ e) × (same_group e.group a.group ≡ false → ApartAs old d.targets.reserved e a)) (IsBounded old d.targets.reserved b)
        (IsBounded new d.targets.reserved after) one d.targets.entries both_known bounded

-- where the write is the one that is due, it may follow, and one less is left
module _ (d : Directed) (valid : IsHandover d.targets) (least : Least) (serves : Serves d least) (old : KernelState) (h : ArePlaced old d.targets.entries)
    (e : Entry) (cpus : Ids) (due : due_directly d least old ≡ Some (write_of e cpus)) where
  -- the kernel after it
  abbrev pub given : KernelState
  given = written old (Some (write_of e cpus))

  pub given_follows : MayFollow d least old (write_of e cpus)
  given_follows = inr due

  pub given_placed : ArePlaced given d.targets.entries
  given_placed = made_is_placed old given (Some (write_of e cpus)) (Ok tt) refl d.targets.entries h

  pub given_safe : IsSafe old d.targets.reserved (holders_of d.targets.entries) → IsSafe given d.targets.reserved (holders_of d.targets.entries)
  given_safe safe = made_safe d valid old h (write_of e cpus) (may_make d valid least serves old (write_of e cpus) given_follows) safe

  pub given_lowers : left_directly d.targets given + 1 ≤ left_directly d.targets old
  given_lowers = made_lowers d valid old h (write_of e cpus) (may_make d valid least serves old (write_of e cpus) given_follows)

-- what is known to be held, after a write
pub still_held : (d : Directed) (valid : IsHandover d.targets) (old new : KernelState) (placed : ArePlaced old d.targets.entries)
    (safe : IsSafe old d.targets.reserved (holders_of d.targets.entries)) (place : ℕ) (e : Entry) (within : place < length d.targets.entries)
    (at : e ≡ get_or d.targets.entries place e) (live : is_alive old.table e.pid ≡ true) (cpus : Ids) (w : IsWrite old new e.group cpus) (before : Ids) (is_held : before ≡ held old e)
    (now : Option Ids) → IsHeldNow d.targets old now → IsHeldNow d.targets new (next_held now e.pinned before cpus)
still_held d valid old new placed safe place e within at live cpus w before is_held now held_now = by now e.pinned refl held_now where
  by : (x : Option Ids) (p : Bool) → e.pinned ≡ p → IsHeldNow d.targets old x → IsHeldNow d.targets new (next_held x p before cpus)
  by None p is h = tt
  by (Some all) true is h =
      held_after d valid old new placed safe place e within at is live cpus w before is_held all (set.union (set.difference all before) cpus) h refl
  by (Some all) false is h = tt

-- one gives way in a ring
module _ (d : Directed) (valid : IsHandover d.targets) (least : Least) (serves : Serves d least) (old : KernelState) (o : Overview) (nexts : List ℕ) (standings : List Standing)
    (now : Option Ids) (b : Bounds) (u : IsUnderWay d least old o nexts standings now b) (calm : IsCalm d.targets old o nexts standings now)
    (place : ℕ) (e : Entry) (within : place < length d.targets.entries) (at : e ≡ get_or d.targets.entries place e) (giving : Giving) (turn : IsNextGiving standings place giving)
    (cpus : Ids) (is_cpus : cpus ≡ gets_by old d.targets.reserved d.targets.entries (allowed_of d) least giving e) where
  its_way : IsGivenWay d valid least old u.ready.safe u.ready.placed o nexts standings now u.seen u.held calm e giving
  its_way = given_way d valid least old u.ready.safe u.ready.placed o nexts standings now u.seen u.held calm place e giving within at turn

  pub given_due : due_directly d least old ≡ Some (write_of e cpus)
  given_due = its_way.due ∙ ap (λ s. Some (write_of e s)) (sym is_cpus)

  -- the kernel after it gave way
  abbrev pub next_state : KernelState
  next_state = written old (Some (write_of e cpus))

  w : IsWrite old next_state e.group cpus
  w = is_write old e.group cpus
      (find_among (λ a. same_group e.group a.group) (λ a. IsPlaced old a.group) d.targets.entries e u.ready.placed (found_at d.targets.entries place e valid.groups within at)).there

  pub way_falls : left_directly d.targets next_state + 1 ≤ left_directly d.targets old
  way_falls = given_lowers d valid least serves old u.ready.placed e cpus given_due

  module _ (after : Bounds) (standings_after : List Standing) (before own : Ids) (is_held : before ≡ held old e) (is_own : own ≡ set.difference cpus d.targets.reserved)
      (all_is : after.held ≡ set.union (set.difference b.held before) own) (pinned_is : own_of after ≡ set.union (set.difference (own_of b) before) own)
      (put : IsStanding standings standings_after place Moved) where
    pub way_given : IsUnderWay d least next_state o nexts standings_after (next_held now e.pinned before cpus) after
    way_given = record {
      ready = record {
        placed = given_placed d valid least serves old u.ready.placed e cpus given_due;
        safe = given_safe d valid least serves old u.ready.placed e cpus given_due u.ready.safe;
        bounded = bounded_after d valid old next_state u.ready.placed u.ready.safe place e within at its_way.pinned its_way.live cpus w before is_held b after u.ready.bounded own is_own all_is pinned_is;
      };
      seen = seen_after d valid least old next_state o nexts standings standings_after u.seen place e within at cpus w refl Moved put tt;
      held = still_held d valid old next_state u.ready.placed u.ready.safe place e within at its_way.live cpus w before is_held now u.held;
    }

-- one takes its target
pub taken_under_way : (d : Directed) (valid : IsHandover d.targets) (least : Least) (old : KernelState) (o : Overview) (nexts : List ℕ) (standings standings_after : List Standing)
    (now : Option Ids) (b after : Bounds) → IsUnderWay d least old o nexts standings now b → (place : ℕ) (e : Entry) (within : place < length d.targets.entries)
    (at : e ≡ get_or d.targets.entries place e) → must_move old e ≡ true → (before : Ids) → before ≡ held old e
    → IsReady d.targets (written old (Some (write_of e e.target))) after → IsStanding standings standings_after place Rests
    → IsUnderWay d least (written old (Some (write_of e e.target))) o nexts standings_after (next_held now e.pinned before e.target) after
taken_under_way d valid least old o nexts standings standings_after now b after u place e within at moves before is_held ready put = record {
  ready = ready;
  seen = seen_after d valid least old new o nexts standings standings_after u.seen place e within at e.target w refl Rests put
      (holds_its_target new e ((is_same_decides _ _).1 w.own));
  held = still_held d valid old new u.ready.placed u.ready.safe place e within at (both_of (is_alive old.table e.pid) _ moves).0 e.target w before is_held now u.held;
} where
  new : KernelState
  new = written old (Some (write_of e e.target))

  w : IsWrite old new e.group e.target
  w = is_write old e.group e.target
      (find_among (λ a. same_group e.group a.group) (λ a. IsPlaced old a.group) d.targets.entries e u.ready.placed (found_at d.targets.entries place e valid.groups within at)).there

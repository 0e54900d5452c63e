-- What was seen of the entries tells which write is due, and stays after each write.
use Rattle.std.proofs.Common.{◌≡◌, ◌⊎◌, ℕ, ◌<◌, length, get_or, Bool, true, false, not, ◌&&◌, ◌||◌, List, [], ◌∷◌, refl, sym, ap, ◌∙◌, subst, arith, inl, inr}
use Rattle.std.proofs.lemmas.Bool.{false≢true, cases_eq}
use Rattle.std.specs.Prelude.{cond, find, Option, Some, None, is_none, is_some, slice_index, option_map}
use Rattle.std.specs.List.{AllByRecursion}
use Rattle.std.specs.FinSet as set
use Rattle.cpu_set.specs.Ids.{Ids, is_same}
use Rattle.cpu_set.specs.PointwiseLaws.{contains-intersection}
use Rattle.cpuset_tree.specs.Groups.{same_group}
use Rattle.proctable.specs.Processes.{is_alive}
use Rattle.kernel_model.specs.KernelState.{KernelState}
use Rattle.apply_plan.specs.declared.Entry.{Entry}
use Rattle.apply_plan.specs.declared.overview.Overview.{Overview}
use Rattle.apply_plan.specs.declared.giving.Giving.{Giving}
use Rattle.apply_plan.specs.declared.giving.Giving.TheVariants.{Sharing, Aside, Squeezed}
use Rattle.apply_plan.specs.Holders.{IsSafe}
use Rattle.apply_plan.specs.Targets.{holders_of, IsHandover, ArePlaced}
use Rattle.apply_plan.specs.DueWrite.{held}
use Rattle.apply_plan.specs.ListLemmas.{find_none, find_among, none_found}
use Rattle.apply_plan.specs.WriteLemmas.{IsWrite, by_test}
use Rattle.apply_plan.specs.DirectWords.{has_own, are_free, lets_go, may_take, blocks}
use Rattle.apply_plan.specs.Rings.{next, in_ring, rings_stand}
use Rattle.apply_plan.specs.NextLemmas.{some_at, all_places, one_place, get_here}
use Rattle.apply_plan.specs.FirstHolderLemmas.{find_place, same_here}
use Rattle.apply_plan.specs.Overviews.{Tells, all_held, pinned_held}
use Rattle.apply_plan.specs.MayWrite.{write_of}
use Rattle.apply_plan.specs.Directed.{Directed, allowed_of, Least}
use Rattle.apply_plan.specs.DirectedLemmas.{found_at}
use Rattle.apply_plan.specs.DirectWrite.{goes, is_new, is_mover, is_grower, must_yield, shares, shared_way, has_room, has_place, steps_aside, aside, squeezed, first_due, gets, due_directly}
use Rattle.apply_plan.specs.DirectLemmas.{both_of}
use Rattle.apply_plan.specs.OverviewLemmas.{same_answers, free_together}
use Rattle.apply_plan.specs.SetMemberLaws.{in_minus, minus_has}
use Rattle.apply_plan.specs.Turns.{gets_by}
use Rattle.direct_finish.specs.declared.standing.Standing.{Standing}
use Rattle.direct_finish.specs.declared.standing.Standing.TheVariants.{Roomy, Full, Waits, Beside, Rests, Guarded, Moved}
use Rattle.direct_finish.specs.Seen.{AreAlike, IsRinged, StandsAs, IsSeen, IsHeldNow, IsWaiting, LeadsOn, IsHeldUp, IsCalmAt, IsStanding, is_due, IsNobodys, IsTurnAt, IsNextGiving, IsHeldYet, IsCalm}
use Rattle.direct_finish.specs.CalmLemmas.{own_alike, IsKept, IsKnown, lets_same, next_kept, beside_yields, none_goes, yields_none, rests_yields, ring_same, yields_same, steps_same, still_tells}

and_false : (x : Bool) → (x && false) ≡ false
and_false true = refl
and_false false = refl

-- sets that are the same without the reserved CPUs
pub alike_if : (reserved a b : Ids) → set.difference a reserved ≡ set.difference b reserved → AreAlike reserved a b
alike_if reserved a b same q out = same_answers (set.contains a q) (set.contains b q)
    (λ m. (in_minus b reserved q (sym (ap (λ x. set.contains x q) same) ∙ minus_has a reserved q m out)).0)
    (λ m. (in_minus a reserved q (ap (λ x. set.contains x q) same ∙ minus_has b reserved q m out)).0)

-- where some of what a pinned one lacks is held, its target is not free
pub held_up_by : (k : KernelState) (reserved : Ids) (entries : List Entry) (e : Entry) (s : Ids) → e.pinned ≡ true → AreAlike reserved s (all_held k reserved entries)
    → set.is_subset (set.intersection (set.difference e.target (held k e)) s) reserved ≡ false → are_free k reserved entries e e.target ≡ false
held_up_by k reserved entries e s pinned alike some =
    free_together k reserved entries e
    ∙ ap (λ p. set.is_subset (set.intersection (set.difference e.target (held k e)) (cond p (all_held k reserved entries) (pinned_held k reserved entries))) reserved) pinned
    ∙ off (set.is_subset (set.intersection (set.difference e.target (held k e)) (all_held k reserved entries)) reserved)
    (sym (own_alike reserved (set.intersection (set.difference e.target (held k e)) s) (set.intersection (set.difference e.target (held k e)) (all_held k reserved entries))
    (λ q out. contains-intersection (set.difference e.target (held k e)) s q ∙ ap (λ b. set.contains (set.difference e.target (held k e)) q && b) (alike q out)
    ∙ sym (contains-intersection (set.difference e.target (held k e)) (all_held k reserved entries) q))) ∙ ap not some)
  where
    off : (x : Bool) → not x ≡ true → x ≡ false
    off true t = absurd (false≢true t)
    off false t = refl

-- whoever gives way next is at a place
pub giving_within : (standings : List Standing) (place : ℕ) (giving : Giving) → IsNextGiving standings place giving → place < length standings
giving_within standings place Sharing turn = absurd turn
giving_within standings place Aside turn = turn.within
giving_within standings place Squeezed turn = turn.1.within

-- where all is calm
module _ (d : Directed) (valid : IsHandover d.targets) (least : Least) (k : KernelState) (safe : IsSafe k d.targets.reserved (holders_of d.targets.entries))
    (placed : ArePlaced k d.targets.entries) (o : Overview) (nexts : List ℕ) (standings : List Standing) (now : Option Ids)
    (s : IsSeen d least k o nexts standings) (held_now : IsHeldNow d.targets k now) (calm : IsCalm d.targets k o nexts standings now) where
  abbrev entries : List Entry
  entries = d.targets.entries

  abbrev reserved : Ids
  reserved = d.targets.reserved

  abbrev first : KernelState
  first = s.first

  held_same : AreAlike reserved (all_held k reserved entries) (all_held first reserved entries)
  held_same = by now held_now calm.held where
    by : (x : Option Ids) → IsHeldNow d.targets k x → IsHeldYet reserved o x → AreAlike reserved (all_held k reserved entries) (all_held first reserved entries)
    by None h yet = absurd yet
    by (Some t) h yet = λ q out. sym (h q out) ∙ yet q out ∙ ap (λ x. set.contains x q) s.seen.held

  stays_of : (x : Standing) (e : Entry) → StandsAs d least first k x e → IsWaiting x → held k e ≡ held first e
  stays_of Roomy e p w = p.0.stays
  stays_of Full e p w = p.0.stays
  stays_of Waits e p w = p.stays
  stays_of Beside e p w = p.stays
  stays_of Rests e p w = absurd w
  stays_of Guarded e p w = absurd w
  stays_of Moved e p w = absurd w

  its_standing : (i : ℕ) → i < length entries → (x : Standing) × (x ≡ get_or standings i x)
  its_standing i within = let room : length standings ≡ length entries = s.room in let y = some_at standings i (omega (arith, within, room)) in (y.0, y.1.1)

  its_calm : (i : ℕ) → i < length entries → (x : Standing) → x ≡ get_or standings i x → IsCalmAt d.targets k nexts standings i x
  its_calm i within x is = let room : length standings ≡ length entries = s.room in calm.each i x (omega (arith, within, room)) is

  kept_by : (i : ℕ) (e : Entry) (x : Standing) → StandsAs d least first k x e → IsCalmAt d.targets k nexts standings i x → IsKept first k e
  kept_by i e Roomy p c = inr p.0.stays
  kept_by i e Full p c = inr p.0.stays
  kept_by i e Waits p c = inr p.stays
  kept_by i e Beside p c = inr p.stays
  kept_by i e Rests p c = inl p
  kept_by i e Guarded p c = inr p.stays
  kept_by i e Moved p c = absurd c

  kept_all : AllByRecursion (IsKept first k) entries
  kept_all = all_places (IsKept first k) entries (λ i e within at. let x = its_standing i within in
      kept_by i e x.0 (s.stand i e x.0 within at x.1) (its_calm i within x.0 x.1))

  -- the entry at a place
  module _ (i : ℕ) (e : Entry) (within : i < length entries) (at : e ≡ get_or entries i e) where
    abbrev On : Type 0
    On = (y : Entry) × ((next first reserved entries e ≡ Some y) × (held k y ≡ held first y))

    on : LeadsOn nexts standings i → On
    on c =
        let inside : slice_index nexts i < length standings = c.within in
        let room : length standings ≡ length entries = s.room in
        let there : slice_index nexts i < length entries = omega (arith, inside, room) in
        let y = some_at entries (slice_index nexts i) there in
        (y.0, (s.waits_for.tells i e within at ∙ y.1.0, stays_of c.s y.0 (s.stand (slice_index nexts i) y.0 c.s there y.1.1 c.is) c.waits))

    -- some of what it lacks is held
    held_up : held k e ≡ held first e → LeadsOn nexts standings i ⊎ IsHeldUp d.targets k i → are_free k reserved entries e e.target ≡ false
    held_up stays (inl c) =
        let y = on c in
        ap is_none (next_kept d.targets valid first k s.table s.online kept_all (λ a. same_group e.group a.group) e (found_at entries i e valid.groups within at) stays y.0 y.1.0 y.1.1)
    held_up stays (inr up) = up e at

    known_by : (x : Standing) → StandsAs d least first k x e → IsCalmAt d.targets k nexts standings i x → IsKnown d.targets first k e
    known_by Roomy p c = inr (p.0.stays, inl (p.0.pinned, (p.0.lets, on c)))
    known_by Full p c = inr (p.0.stays, inl (p.0.pinned, (p.0.lets, on c)))
    known_by Waits p c = inr (p.stays, inl (p.pinned, (p.lets, on c)))
    known_by Beside p c = inr (p.stays, inr (inr (p.none, held_up p.stays c)))
    known_by Rests p c = inl p
    known_by Guarded p c = inr (p.stays, inr (inl (p.grows, p.guard)))
    known_by Moved p c = absurd c

    known_here : IsKnown d.targets first k e
    known_here = let x = its_standing i within in known_by x.0 (s.stand i e x.0 within at x.1) (its_calm i within x.0 x.1)

  known : AllByRecursion (IsKnown d.targets first k) entries
  known = all_places (IsKnown d.targets first k) entries known_here

  module _ (i : ℕ) (e : Entry) (within : i < length entries) (at : e ≡ get_or entries i e) where
    abbrev itself : Entry → Bool
    itself a = same_group e.group a.group

    found : find itself entries ≡ Some e
    found = found_at entries i e valid.groups within at

    live_of : IsRinged d least first k e → is_alive k.table e.pid ≡ true
    live_of p =
        ap (λ t. is_alive t e.pid) s.table
        ∙ (both_of (is_alive first.table e.pid) _ (both_of (blocks first reserved entries e) (in_ring first reserved entries e) p.yields).0).0

    -- it must give way where its standing says so
    must : (x : Standing) → StandsAs d least first k x e → IsCalmAt d.targets k nexts standings i x → must_yield k reserved entries e ≡ is_due false x
    must Roomy p c =
        let y = on i e within at c in
        yields_same d.targets valid first k s.table s.online safe placed known held_same itself e found p.0.stays p.0.pinned (live_of p.0) o s.seen p.0.own p.0.lets y.0 y.1.0 y.1.1 ∙ p.0.yields
    must Full p c =
        let y = on i e within at c in
        yields_same d.targets valid first k s.table s.online safe placed known held_same itself e found p.0.stays p.0.pinned (live_of p.0) o s.seen p.0.own p.0.lets y.0 y.1.0 y.1.1 ∙ p.0.yields
    must Waits p c =
        let y = on i e within at c in
        ap (λ b. blocks k reserved entries e && b)
        (ring_same d.targets valid first k s.table s.online safe placed known held_same itself e found p.pinned p.lets p.stays y.0 y.1.0 y.1.1 ∙ p.none)
        ∙ and_false (blocks k reserved entries e)
    must Beside p c = beside_yields d.targets valid first k s.table s.online safe placed known held_same itself e found p.stays p.none
    must Rests p c = rests_yields d.targets valid first k s.table s.online safe placed known held_same itself e found p
    must Guarded p c =
        yields_none d.targets valid first k s.table s.online safe placed known held_same itself e found
        (lets_same d.targets valid first k s.table s.online e p.stays ∙ p.grows)
    must Moved p c = absurd c

    off_aside : must_yield k reserved entries e ≡ false → steps_aside k reserved entries (allowed_of d) least e ≡ false
    off_aside off =
        ap (λ b. e.pinned && (b && (has_room k reserved entries e || has_place k reserved entries (allowed_of d) least e))) off ∙ and_false e.pinned

    steps : (x : Standing) → StandsAs d least first k x e → IsCalmAt d.targets k nexts standings i x → steps_aside k reserved entries (allowed_of d) least e ≡ is_due true x
    steps Roomy p c =
        let y = on i e within at c in
        steps_same d.targets valid first k s.table s.online safe placed known held_same itself e found p.0.stays p.0.pinned (live_of p.0) o s.seen p.0.own p.0.lets (allowed_of d) least y.0 y.1.0 y.1.1 ∙ p.1
    steps Full p c =
        let y = on i e within at c in
        steps_same d.targets valid first k s.table s.online safe placed known held_same itself e found p.0.stays p.0.pinned (live_of p.0) o s.seen p.0.own p.0.lets (allowed_of d) least y.0 y.1.0 y.1.1 ∙ p.1
    steps Waits p c = off_aside (must Waits p c)
    steps Beside p c = off_aside (must Beside p c)
    steps Rests p c = off_aside (must Rests p c)
    steps Guarded p c = off_aside (must Guarded p c)
    steps Moved p c = absurd c

    -- no shared one stands in a ring
    pinned_or_off : (x : Standing) → StandsAs d least first k x e → IsCalmAt d.targets k nexts standings i x → shares k reserved entries e ≡ false
    pinned_or_off Roomy p c = ap (λ b. not b && must_yield k reserved entries e) p.0.pinned
    pinned_or_off Full p c = ap (λ b. not b && must_yield k reserved entries e) p.0.pinned
    pinned_or_off Waits p c = ap (λ b. not e.pinned && b) (must Waits p c) ∙ and_false (not e.pinned)
    pinned_or_off Beside p c = ap (λ b. not e.pinned && b) (must Beside p c) ∙ and_false (not e.pinned)
    pinned_or_off Rests p c = ap (λ b. not e.pinned && b) (must Rests p c) ∙ and_false (not e.pinned)
    pinned_or_off Guarded p c = ap (λ b. not e.pinned && b) (must Guarded p c) ∙ and_false (not e.pinned)
    pinned_or_off Moved p c = absurd c

    stands_here : (x : Standing) → x ≡ get_or standings i x → StandsAs d least first k x e
    stands_here x is = s.stand i e x within at is

    calm_here : (x : Standing) → x ≡ get_or standings i x → IsCalmAt d.targets k nexts standings i x
    calm_here x is = its_calm i within x is

    must_here : (x : Standing) → x ≡ get_or standings i x → must_yield k reserved entries e ≡ is_due false x
    must_here x is = must x (stands_here x is) (calm_here x is)

    steps_here : (x : Standing) → x ≡ get_or standings i x → steps_aside k reserved entries (allowed_of d) least e ≡ is_due true x
    steps_here x is = steps x (stands_here x is) (calm_here x is)

    shares_here : shares k reserved entries e ≡ false
    shares_here = let x = its_standing i within in pinned_or_off x.0 (stands_here x.0 x.1) (calm_here x.0 x.1)

    -- what it gets is told, where it must give way
    tells_by : (x : Standing) → StandsAs d least first k x e → is_due false x ≡ true → Tells k reserved entries o e
    tells_by Roomy p due = still_tells d.targets valid first k s.table s.online safe placed known held_same itself e found p.0.stays p.0.pinned (live_of p.0) o s.seen p.0.own
    tells_by Full p due = still_tells d.targets valid first k s.table s.online safe placed known held_same itself e found p.0.stays p.0.pinned (live_of p.0) o s.seen p.0.own
    tells_by Waits p due = absurd (false≢true due)
    tells_by Beside p due = absurd (false≢true due)
    tells_by Rests p due = absurd (false≢true due)
    tells_by Guarded p due = absurd (false≢true due)
    tells_by Moved p due = absurd (false≢true due)

    pinned_by : (x : Standing) → StandsAs d least first k x e → is_due false x ≡ true → e.pinned ≡ true
    pinned_by Roomy p due = p.0.pinned
    pinned_by Full p due = p.0.pinned
    pinned_by Waits p due = absurd (false≢true due)
    pinned_by Beside p due = absurd (false≢true due)
    pinned_by Rests p due = absurd (false≢true due)
    pinned_by Guarded p due = absurd (false≢true due)
    pinned_by Moved p due = absurd (false≢true due)

    live_by : (x : Standing) → StandsAs d least first k x e → is_due false x ≡ true → is_alive k.table e.pid ≡ true
    live_by Roomy p due = live_of p.0
    live_by Full p due = live_of p.0
    live_by Waits p due = absurd (false≢true due)
    live_by Beside p due = absurd (false≢true due)
    live_by Rests p due = absurd (false≢true due)
    live_by Guarded p due = absurd (false≢true due)
    live_by Moved p due = absurd (false≢true due)

    either_due : (x : Standing) → is_due true x ≡ true → is_due false x ≡ true
    either_due Roomy due = refl
    either_due Full due = refl
    either_due Waits due = due
    either_due Beside due = due
    either_due Rests due = due
    either_due Guarded due = due
    either_due Moved due = due

  -- one must give way, so rings stand, and nobody takes its target at once
  module _ (i : ℕ) (e : Entry) (within : i < length entries) (at : e ≡ get_or entries i e) (yields : must_yield k reserved entries e ≡ true) where
    rings : rings_stand k reserved entries ≡ true
    rings = by (find (in_ring k reserved entries) entries) refl where
      by : (x : Option Entry) → find (in_ring k reserved entries) entries ≡ x → is_some x ≡ true
      by (Some y) is = refl
      by None is = absurd (false≢true (sym (find_among (itself i e within at) (λ a. in_ring k reserved entries a ≡ false) entries e (find_none (in_ring k reserved entries) entries is) (found i e within at))
          ∙ (both_of (blocks k reserved entries e) (in_ring k reserved entries e) yields).1))

    off : (j : ℕ) (a : Entry) → j < length entries → a ≡ get_or entries j a → (a.pinned || lets_go k reserved a) ≡ true → goes k reserved entries a ≡ false
    off j a inside is counts =
        none_goes d.targets valid first k s.table s.online safe placed known held_same (λ x. same_group a.group x.group) a (found_at entries j a valid.groups inside is) rings counts

    no_new : find (is_new k reserved entries) entries ≡ None
    no_new = none_found (is_new k reserved entries) entries (all_places (λ a. is_new k reserved entries a ≡ false) entries (λ j a inside is. by_test a.pinned
        (λ pinned. ap (λ b. a.pinned && (not (has_own reserved (held k a)) && b)) (off j a inside is (ap (λ b. b || lets_go k reserved a) pinned))
        ∙ ap (λ b. a.pinned && b) (and_false (not (has_own reserved (held k a)))) ∙ and_false a.pinned)
        (λ shared. ap (λ b. b && (not (has_own reserved (held k a)) && goes k reserved entries a)) shared)))

    no_mover : find (is_mover k reserved entries) entries ≡ None
    no_mover = none_found (is_mover k reserved entries) entries (all_places (λ a. is_mover k reserved entries a ≡ false) entries (λ j a inside is. by_test (lets_go k reserved a)
        (λ lets. ap (λ b. lets_go k reserved a && b) (off j a inside is (ap (λ b. a.pinned || b) lets ∙ or_true a.pinned)) ∙ and_false (lets_go k reserved a))
        (λ keeps. ap (λ b. b && goes k reserved entries a) keeps))) where
          or_true : (x : Bool) → (x || true) ≡ true
          or_true true = refl
          or_true false = refl

    no_grower : find (is_grower k reserved entries) entries ≡ None
    no_grower = none_found (is_grower k reserved entries) entries (all_places (λ a. is_grower k reserved entries a ≡ false) entries (λ j a inside is. by_test a.pinned
        (λ pinned. ap (λ b. a.pinned && b) (off j a inside is (ap (λ b. b || lets_go k reserved a) pinned)) ∙ and_false a.pinned)
        (λ shared. ap (λ b. b && goes k reserved entries a) shared)))

    no_sharer : find (shares k reserved entries) entries ≡ None
    no_sharer = none_found (shares k reserved entries) entries (all_places (λ a. shares k reserved entries a ≡ false) entries (λ j a inside is. shares_here j a inside is))

  -- the first whose turn it is is found
  found_aside : (place : ℕ) (e : Entry) → place < length entries → e ≡ get_or entries place e → IsTurnAt true standings place
      → find (steps_aside k reserved entries (allowed_of d) least) entries ≡ Some e
  found_aside place e within at turn =
      find_place (steps_aside k reserved entries (allowed_of d) least) entries place
      (λ j a inside less is. let x = its_standing j inside in
      steps_here j a inside is x.0 x.1 ∙ turn.before j x.0 less (let room : length standings ≡ length entries = s.room in omega (arith, room, inside)) x.1)
      (λ a inside is. steps_here place a inside is turn.s turn.is ∙ turn.due)
      ∙ get_here entries place e within at

  none_aside : IsNobodys true standings (length standings) → find (steps_aside k reserved entries (allowed_of d) least) entries ≡ None
  none_aside nobody =
      none_found (steps_aside k reserved entries (allowed_of d) least) entries (all_places (λ a. steps_aside k reserved entries (allowed_of d) least a ≡ false) entries
      (λ j a inside is. let x = its_standing j inside in
      let less : j < length standings = (let room : length standings ≡ length entries = s.room in omega (arith, room, inside)) in
      steps_here j a inside is x.0 x.1 ∙ nobody j x.0 less less x.1))

  found_yields : (place : ℕ) (e : Entry) → place < length entries → e ≡ get_or entries place e → IsTurnAt false standings place
      → find (must_yield k reserved entries) entries ≡ Some e
  found_yields place e within at turn =
      find_place (must_yield k reserved entries) entries place
      (λ j a inside less is. let x = its_standing j inside in
      must_here j a inside is x.0 x.1 ∙ turn.before j x.0 less (let room : length standings ≡ length entries = s.room in omega (arith, room, inside)) x.1)
      (λ a inside is. must_here place a inside is turn.s turn.is ∙ turn.due)
      ∙ get_here entries place e within at

  -- the write by which the next one gives way is the one that is due, and what was seen tells it
  pub record IsGivenWay (e : Entry) (giving : Giving) : Type 0 where
    pub due : due_directly d least k ≡ Some (write_of e (gets_by k reserved entries (allowed_of d) least giving e))
    pub tells : Tells k reserved entries o e
    pub pinned : e.pinned ≡ true
    pub live : is_alive k.table e.pid ≡ true

  pub given_way : (place : ℕ) (e : Entry) (giving : Giving) → place < length entries → e ≡ get_or entries place e → IsNextGiving standings place giving → IsGivenWay e giving
  given_way place e Sharing within at turn = absurd turn
  given_way place e Aside within at turn =
      let yields : must_yield k reserved entries e ≡ true = must_here place e within at turn.s turn.is ∙ either_due place e within at turn.s turn.due in
      record {
        due = λ i. first_due (
            option_map (λ x. write_of x x.target) (no_new place e within at yields i) ∷ option_map (λ x. write_of x x.target) (no_mover place e within at yields i)
            ∷ option_map (λ x. write_of x x.target) (no_grower place e within at yields i)
            ∷ option_map (λ x. write_of x (shared_way k reserved entries x)) (no_sharer place e within at yields i)
            ∷ option_map (λ x. write_of x (aside k reserved entries (allowed_of d) least x)) (found_aside place e within at turn i)
            ∷ gets (must_yield k reserved entries) (squeezed k reserved entries) entries
            ∷ gets (may_take k reserved entries) (λ x. x.target) entries ∷ []);
        tells = tells_by place e within at turn.s (stands_here place e within at turn.s turn.is) (either_due place e within at turn.s turn.due);
        pinned = pinned_by place e within at turn.s (stands_here place e within at turn.s turn.is) (either_due place e within at turn.s turn.due);
        live = live_by place e within at turn.s (stands_here place e within at turn.s turn.is) (either_due place e within at turn.s turn.due);
      }
  given_way place e Squeezed within at turn =
      let yields : must_yield k reserved entries e ≡ true = must_here place e within at turn.1.s turn.1.is ∙ turn.1.due in
      record {
        due = λ i. first_due (
            option_map (λ x. write_of x x.target) (no_new place e within at yields i) ∷ option_map (λ x. write_of x x.target) (no_mover place e within at yields i)
            ∷ option_map (λ x. write_of x x.target) (no_grower place e within at yields i)
            ∷ option_map (λ x. write_of x (shared_way k reserved entries x)) (no_sharer place e within at yields i)
            ∷ option_map (λ x. write_of x (aside k reserved entries (allowed_of d) least x)) (none_aside turn.0 i)
            ∷ option_map (λ x. write_of x (squeezed k reserved entries x)) (found_yields place e within at turn.1 i)
            ∷ gets (may_take k reserved entries) (λ x. x.target) entries ∷ []);
        tells = tells_by place e within at turn.1.s (stands_here place e within at turn.1.s turn.1.is) turn.1.due;
        pinned = pinned_by place e within at turn.1.s (stands_here place e within at turn.1.s turn.1.is) turn.1.due;
        live = live_by place e within at turn.1.s (stands_here place e within at turn.1.s turn.1.is) turn.1.due;
      }

-- after a write of one entry the others stand as they did
module _ (d : Directed) (valid : IsHandover d.targets) (least : Least) (old new : KernelState) (o : Overview) (nexts : List ℕ) (standings after : List Standing)
    (s : IsSeen d least old o nexts standings) (place : ℕ) (e : Entry) (within : place < length d.targets.entries) (at : e ≡ get_or d.targets.entries place e)
    (cpus : Ids) (w : IsWrite old new e.group cpus) (online : new.tree.online ≡ old.tree.online) (x : Standing) (put : IsStanding standings after place x)
    (here : StandsAs d least s.first new x e) where
  kept : (y : Standing) (a : Entry) → held new a ≡ held old a → StandsAs d least s.first old y a → StandsAs d least s.first new y a
  kept Roomy a same p = (record { stays = same ∙ p.0.stays; pinned = p.0.pinned; lets = p.0.lets; own = p.0.own; yields = p.0.yields }, p.1)
  kept Full a same p = (record { stays = same ∙ p.0.stays; pinned = p.0.pinned; lets = p.0.lets; own = p.0.own; yields = p.0.yields }, p.1)
  kept Waits a same p = record { stays = same ∙ p.stays; pinned = p.pinned; lets = p.lets; none = p.none }
  kept Beside a same p = record { stays = same ∙ p.stays; none = p.none }
  kept Rests a same p =
      ap (λ t. is_alive t a.pid && not (is_same (held new a) a.target)) w.table ∙ ap (λ c. is_alive old.table a.pid && not (is_same c a.target)) same ∙ p
  kept Guarded a same p = record { stays = same ∙ p.stays; grows = p.grows; guard = p.guard }
  kept Moved a same p = tt

  pub seen_after : IsSeen d least new o nexts after
  seen_after = record {
    first = s.first;
    table = w.table ∙ s.table;
    online = online ∙ s.online;
    seen = s.seen;
    waits_for = s.waits_for;
    room = put.room ∙ s.room;
    stand = λ i a y inside is stands. elim (cases_eq i place) [
      | inl same ↦
          let one : a ≡ e = same_here d.targets.entries place a e within (subst (λ n. a ≡ get_or d.targets.entries n a) same is) at in
          let its : y ≡ x = stands ∙ ap (λ n. get_or after n y) same ∙ put.here y in
          subst (λ (z : Entry). StandsAs d least s.first new y z) (sym one) (subst (λ (z : Standing). StandsAs d least s.first new z e) (sym its) here)
      | inr differs ↦
          let other : same_group e.group a.group ≡ false = by_test (same_group e.group a.group)
          (λ same. absurd (differs (sym (one_place d.targets.entries place i e a valid.groups within inside at is same)))) (λ f. f) in
          kept y a (w.others a.group other) (s.stand i a y inside is (stands ∙ put.others i y differs))
    ];
  }

-- What the walks over the entries of a hand-over write, entry by entry.
use Rattle.std.proofs.Common.{◌≡◌, ℕ, zero, suc, ◌+◌, ◌<◌, Bool, true, false, not, ◌&&◌, List, [], ◌∷◌, ◌++◌, take, drop, get_or, length, refl, sym, ap, ◌∙◌, subst, inl, inr}
use Rattle.std.proofs.lemmas.Bool.{false≢true}
use Rattle.std.proofs.lemmas.List.{take-append-drop, take_more, drop_more}
use Rattle.std.specs.Prelude.{cond, find, Some, None, is_some, Ok, Err}
use Rattle.std.specs.List.{AllByRecursion}
use Rattle.cpu_set.specs.Ids.{Ids, is_same, is_empty}
use Rattle.proctable.specs.TableState.{TableState}
use Rattle.proctable.specs.Processes.{is_alive}
use Rattle.kernel_model.specs.declared.fault.KernelFault.{KernelFault}
use Rattle.kernel_model.specs.KernelState.{KernelState}
use Rattle.apply_plan.specs.declared.entry.Entry.{Entry}
use Rattle.apply_plan.specs.declared.scan.Write.{Write}
use Rattle.apply_plan.specs.Kept.{kept}
use Rattle.apply_plan.specs.Targets.{Targets, IsHandover, IsPlaced, ArePlaced}
use Rattle.apply_plan.specs.DueWrite.{held, kept_of, must_release, must_move, release_of, move_of, first_write, due, written, missed}
use Rattle.apply_plan.specs.KeptLemmas.{kept_target, kept_again}
use Rattle.apply_plan.specs.Walks.{its_release, its_move, IsMadeIfAny, Writes, HasWritten, Stops, NoneMust, HaveReleased, HaveMoved}
use Rattle.apply_plan.specs.ListLemmas.{all_behind, all_map2, find_among}
use Rattle.apply_plan.specs.KernelFactLemmas.{with_request, is_write, stands, placed_alike}
use Rattle.apply_plan.specs.WriteLemmas.{IsWrite, Left, all_left, by_test}
use Rattle.apply_plan.specs.StepLemmas.{is_same_itself}
use Rattle.std.proofs.Math.Bool.{and-false}

module _ {X : Type 0} (P : X → Type 0) where
  pub all_front : (n : ℕ) (xs : List X) → AllByRecursion P xs → AllByRecursion P (take n xs)
  all_front zero xs h = tt
  all_front (suc n) [] h = tt
  all_front (suc n) (x ∷ xs) h = (h.0, all_front n xs h.1)

  pub all_push : (xs : List X) (y : X) → AllByRecursion P xs → P y → AllByRecursion P (xs ++ y ∷ [])
  all_push [] y h p = (p, tt)
  all_push (x ∷ xs) y h p = (h.0, all_push xs y h.1 p)

module _ {X : Type 0} (test : X → Bool) where
  -- where none of the earlier ones passes, the first that does is found
  pub found_after : (xs rest : List X) (y : X) → AllByRecursion (λ x. test x ≡ false) xs → test y ≡ true → find test (xs ++ y ∷ rest) ≡ Some y
  found_after [] rest y h passes = ap (λ b. cond b (Some y) (find test rest)) passes
  found_after (x ∷ xs) rest y h passes = ap (λ b. cond b (Some x) (find test (xs ++ y ∷ rest))) h.0 ∙ found_after xs rest y h.1 passes

  pub none_found : (xs : List X) → AllByRecursion (λ x. test x ≡ false) xs → find test xs ≡ None
  none_found [] h = refl
  none_found (x ∷ xs) h = ap (λ b. cond b (Some x) (find test xs)) h.0 ∙ none_found xs h.1

-- one due write more after others
writes_then : (h : Targets) (n : ℕ) (old mid : KernelState) → Writes h n old mid → is_some (due h mid) ≡ true → Writes h (suc n) old (written mid (due h mid))
writes_then h zero old mid same some =
    (ap (λ k. is_some (due h k)) (sym same) ∙ some, ap (λ k. written k (due h k)) same)
writes_then h (suc n) old mid (first, later) some = (first, writes_then h n (written old (due h old)) mid later some)

pub has_written_then : (h : Targets) (old mid : KernelState) (w : Write) → HasWritten h old mid → due h mid ≡ Some w → HasWritten h old (written mid (Some w))
has_written_then h old mid w made is =
    subst (λ d. HasWritten h old (written mid d)) is (suc made.0, writes_then h made.0 old mid made.1 (ap is_some is))

-- a test of what an entry holds and whether it lives, after a write of another entry
abbrev releases : Ids → TableState → Ids → Entry → Bool
releases reserved t s a = is_alive t a.pid && not (is_same (kept reserved a.target s) s)

abbrev moves : TableState → Ids → Entry → Bool
moves t s a = is_alive t a.pid && not (is_same s a.target)

-- an entry that holds what it keeps of something need not let go
keeps_what_it_kept : (reserved : Ids) → is_empty reserved ≡ false → (t : TableState) (s : Ids) (a : Entry) → releases reserved t (kept reserved a.target s) a ≡ false
keeps_what_it_kept reserved some t s a =
    ap (λ b. is_alive t a.pid && not b)
    (ap (λ x. is_same x (kept reserved a.target s)) (kept_again reserved a.target some s) ∙ is_same_itself (kept reserved a.target s))
    ∙ and-false (is_alive t a.pid)

-- nor need one that holds its target, and it need not move
keeps_target : (reserved : Ids) (t : TableState) (a : Entry) → is_empty a.target ≡ false → releases reserved t a.target a ≡ false
keeps_target reserved t a some =
    ap (λ b. is_alive t a.pid && not b) (ap (λ x. is_same x a.target) (kept_target reserved a.target some) ∙ is_same_itself a.target) ∙ and-false (is_alive t a.pid)

stays_at_target : (t : TableState) (a : Entry) → moves t a.target a ≡ false
stays_at_target t a = ap (λ b. is_alive t a.pid && not b) (is_same_itself a.target) ∙ and-false (is_alive t a.pid)

module _ (old new : KernelState) (e : Entry) (cpus : Ids) (w : IsWrite old new e.group cpus) (reserved : Ids) where
  release_left : must_release new reserved e ≡ false → (a : Entry) → Left old new e cpus a → must_release old reserved a ≡ false → must_release new reserved a ≡ false
  release_left own a (inl p) was = ap (must_release new reserved) p.0 ∙ own
  release_left own a (inr p) was = ap (λ t. releases reserved t (held new a) a) w.table ∙ ap (λ s. releases reserved old.table s a) p ∙ was

  move_left : must_move new e ≡ false → (a : Entry) → Left old new e cpus a → must_move old a ≡ false → must_move new a ≡ false
  move_left own a (inl p) was = ap (must_move new) p.0 ∙ own
  move_left own a (inr p) was = ap (λ t. moves t (held new a) a) w.table ∙ ap (λ s. moves old.table s a) p ∙ was

  -- after it need not let go: what it kept, or its target
  released_keeps : is_empty reserved ≡ false → cpus ≡ kept_of old reserved e → must_release new reserved e ≡ false
  released_keeps some is =
      ap (λ s. releases reserved new.table s e) (w.own ∙ is) ∙ keeps_what_it_kept reserved some new.table (held old e) e

  moved_keeps : is_empty e.target ≡ false → cpus ≡ e.target → must_release new reserved e ≡ false
  moved_keeps some is = ap (λ s. releases reserved new.table s e) (w.own ∙ is) ∙ keeps_target reserved new.table e some

  moved_stays : cpus ≡ e.target → must_move new e ≡ false
  moved_stays is = ap (λ s. moves new.table s e) (w.own ∙ is) ∙ stays_at_target new.table e

-- the walks at one of the entries that they go over
module _ (h : Targets) (valid : IsHandover h) (first old : KernelState) (entries : List Entry) (same : entries ≡ h.entries)
    (i : ℕ) (e : Entry) (among : i < length entries) (is : e ≡ get_or entries i e) where
  within : i < length h.entries
  within = subst (λ xs. i < length xs) same among

  at : e ≡ get_or h.entries i e
  at = subst (λ xs. e ≡ get_or xs i e) same is

  front_more : take (i + 1) h.entries ≡ take i h.entries ++ e ∷ []
  front_more = take_more h.entries i e within ∙ ap (λ x. take i h.entries ++ x ∷ []) (sym at)

  whole : take i h.entries ++ e ∷ drop (i + 1) h.entries ≡ h.entries
  whole = ap (λ xs. take i h.entries ++ xs) (sym (drop_more h.entries i e within ∙ ap (λ x. x ∷ drop (i + 1) h.entries) (sym at))) ∙ take-append-drop i h.entries

  found_here : (test : Entry → Bool) → NoneMust test (take i h.entries) → test e ≡ true → find test h.entries ≡ Some e
  found_here test none passes = ap (find test) (sym whole) ∙ found_after test (take i h.entries) (drop (i + 1) h.entries) e none passes

  -- a fact on each entry, at this one
  pub of_each : (P : Entry → Type 0) → AllByRecursion P h.entries → P e
  of_each P all = (all_behind P (take i h.entries) (e ∷ drop (i + 1) h.entries) (subst (AllByRecursion P) (sym whole) all)).0

  none_more : (test : Entry → Bool) → NoneMust test (take i h.entries) → test e ≡ false → NoneMust test (take (i + 1) h.entries)
  none_more test none fails = subst (NoneMust test) (sym front_more) (all_push (λ x. test x ≡ false) (take i h.entries) e none fails)

  -- after a write of this entry
  module _ (placed : ArePlaced old h.entries) (cpus : Ids) (test : Entry → Bool) (found : find test h.entries ≡ Some e) where
    abbrev New : KernelState
    New = with_request old e.group cpus

    its_write : IsWrite old New e.group cpus
    its_write = is_write old e.group cpus (find_among test (λ a. IsPlaced old a.group) h.entries e placed found).there

    left_all : AllByRecursion (Left old New e cpus) h.entries
    left_all = all_left old New e cpus its_write test h.entries valid.groups found

    still_placed : ArePlaced New h.entries
    still_placed = placed_alike old New h.entries (stands old e.group cpus) placed

    none_still : (u v : Entry → Bool) → ((a : Entry) → Left old New e cpus a → u a ≡ false → v a ≡ false) → (n : ℕ) → NoneMust u (take n h.entries) → NoneMust v (take n h.entries)
    none_still u v on n none = all_map2 (Left old New e cpus) (λ a. u a ≡ false) (λ a. v a ≡ false) on (take n h.entries) (all_front (Left old New e cpus) n h.entries left_all) none

  module _ (was : HaveReleased h i first old) where
    releases_on : must_release old h.reserved e ≡ true → HaveReleased h (i + 1) first (with_request old e.group (kept_of old h.reserved e))
    releases_on must =
        let cpus = kept_of old h.reserved e in
        let found = found_here (must_release old h.reserved) was.keep must in
        let w = its_write was.placed cpus (must_release old h.reserved) found in
        let new = with_request old e.group cpus in
        let own = released_keeps old new e cpus w h.reserved valid.reserve refl in
        record {
          made = has_written_then h first old (release_of old h.reserved e) was.made (ap (λ o. first_write old h.reserved o (find (must_move old) h.entries)) found);
          placed = still_placed was.placed cpus (must_release old h.reserved) found;
          keep = none_more (must_release new h.reserved)
              (none_still was.placed cpus (must_release old h.reserved) found (must_release old h.reserved) (must_release new h.reserved)
              (release_left old new e cpus w h.reserved own) i was.keep)
              own;
        }

    pub released_one : (new : KernelState) → IsMadeIfAny (its_release old h.reserved e) old (Ok tt) new → HaveReleased h (i + 1) first new
    released_one new is = by_test (must_release old h.reserved e)
        (λ must. subst (HaveReleased h (i + 1) first) (sym (is ∙ ap (λ b. written old (cond b (Some (release_of old h.reserved e)) None)) must)) (releases_on must))
        (λ need_not. subst (HaveReleased h (i + 1) first) (sym (is ∙ ap (λ b. written old (cond b (Some (release_of old h.reserved e)) None)) need_not)) (record {
          made = was.made;
          placed = was.placed;
          keep = none_more (must_release old h.reserved) was.keep need_not;
        }))

    release_is_due : must_release old h.reserved e ≡ true → due h old ≡ Some (release_of old h.reserved e)
    release_is_due must =
        ap (λ o. first_write old h.reserved o (find (must_move old) h.entries)) (found_here (must_release old h.reserved) was.keep must)

    pub release_stops : (fault : KernelFault) (new : KernelState) → IsMadeIfAny (its_release old h.reserved e) old (Err fault) new → Stops h first fault new
    release_stops fault new is = record {
      mid = old;
      made = was.made;
      wanted = by_test (must_release old h.reserved e) (λ must. ap is_some (release_is_due must)) (λ need_not. absurd (made_none need_not));
      fault = is.0;
      is = by_test (must_release old h.reserved e)
          (λ must. is.1 ∙ ap (λ b. missed (cond b (Some (release_of old h.reserved e)) None) old) must ∙ ap (λ d. missed d old) (sym (release_is_due must)))
          (λ need_not. absurd (made_none need_not));
    } where
      made_none : must_release old h.reserved e ≡ false → ⊥
      made_none need_not = false≢true (sym (ap (λ b. is_some (cond b (Some (release_of old h.reserved e)) None)) need_not) ∙ is.2)

  module _ (was : HaveMoved h i first old) where
    nothing_released : find (must_release old h.reserved) h.entries ≡ None
    nothing_released = none_found (must_release old h.reserved) h.entries was.keep

    move_is_due : find (must_move old) h.entries ≡ Some e → due h old ≡ Some (move_of e)
    move_is_due found =
        ap (λ o. first_write old h.reserved o (find (must_move old) h.entries)) nothing_released ∙ ap (first_write old h.reserved None) found

    moves_on : must_move old e ≡ true → HaveMoved h (i + 1) first (with_request old e.group e.target)
    moves_on must =
        let found = found_here (must_move old) was.hold must in
        let w = its_write was.placed e.target (must_move old) found in
        let new = with_request old e.group e.target in
        let some = of_each (λ a. is_empty a.target ≡ false) valid.some in
        let keeps = moved_keeps old new e e.target w h.reserved some refl in
        let stays = moved_stays old new e e.target w h.reserved refl in
        record {
          made = has_written_then h first old (move_of e) was.made (move_is_due found);
          placed = still_placed was.placed e.target (must_move old) found;
          keep = all_map2 (Left old new e e.target) (λ a. must_release old h.reserved a ≡ false) (λ a. must_release new h.reserved a ≡ false)
              (release_left old new e e.target w h.reserved keeps) h.entries (left_all was.placed e.target (must_move old) found) was.keep;
          hold = none_more (must_move new)
              (none_still was.placed e.target (must_move old) found (must_move old) (must_move new) (move_left old new e e.target w h.reserved stays) i was.hold)
              stays;
        }

    pub moved_one : (new : KernelState) → IsMadeIfAny (its_move old e) old (Ok tt) new → HaveMoved h (i + 1) first new
    moved_one new is = by_test (must_move old e)
        (λ must. subst (HaveMoved h (i + 1) first) (sym (is ∙ ap (λ b. written old (cond b (Some (move_of e)) None)) must)) (moves_on must))
        (λ need_not. subst (HaveMoved h (i + 1) first) (sym (is ∙ ap (λ b. written old (cond b (Some (move_of e)) None)) need_not)) (record {
          made = was.made;
          placed = was.placed;
          keep = was.keep;
          hold = none_more (must_move old) was.hold need_not;
        }))

    pub move_stops : (fault : KernelFault) (new : KernelState) → IsMadeIfAny (its_move old e) old (Err fault) new → Stops h first fault new
    move_stops fault new is = record {
      mid = old;
      made = was.made;
      wanted = by_test (must_move old e) (λ must. ap is_some (move_is_due (found_here (must_move old) was.hold must))) (λ need_not. absurd (made_none need_not));
      fault = is.0;
      is = by_test (must_move old e)
          (λ must. is.1 ∙ ap (λ b. missed (cond b (Some (move_of e)) None) old) must
          ∙ ap (λ d. missed d old) (sym (move_is_due (found_here (must_move old) was.hold must))))
          (λ need_not. absurd (made_none need_not));
    } where
      made_none : must_move old e ≡ false → ⊥
      made_none need_not = false≢true (sym (ap (λ b. is_some (cond b (Some (move_of e)) None)) need_not) ∙ is.2)

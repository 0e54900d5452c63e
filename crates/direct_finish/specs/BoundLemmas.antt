-- What the bounds tell of one container's target, and how they stay.
use Rattle.std.proofs.Common.{◌≡◌, ℕ, ◌+◌, ◌<◌, ◌≤◌, length, get_or, drop, Bool, true, false, not, ◌&&◌, ◌||◌, List, ◌∷◌, refl, sym, ap, ◌∙◌, subst, arith, inl, inr}
use Rattle.std.proofs.lemmas.Bool.{false≢true, cases_lt}
use Rattle.std.proofs.lemmas.List.{drop_more}
use Rattle.std.specs.Prelude.{cond, find, Some, is_none}
use Rattle.std.specs.FinSet as set
use Rattle.cpu_set.specs.Ids.{Ids, IsDisjoint}
use Rattle.cpuset_tree.specs.Groups.{same_group}
use Rattle.proctable.specs.Processes.{is_alive}
use Rattle.kernel_model.specs.KernelState.{KernelState}
use Rattle.apply_plan.specs.declared.Entry.{Entry}
use Rattle.apply_plan.specs.Targets.{IsHandover, AreTargetsApart}
use Rattle.apply_plan.specs.DueWrite.{held, must_move}
use Rattle.apply_plan.specs.ListLemmas.{all_map2, none_found}
use Rattle.apply_plan.specs.WriteLemmas.{by_test}
use Rattle.apply_plan.specs.DirectWords.{has_own, is_rival, holds_some, are_free, lets_go}
use Rattle.apply_plan.specs.DirectLemmas.{none_own, own_none, lets_moves}
use Rattle.apply_plan.specs.SetMemberLaws.{in_meet, in_minus, minus_has, union_left, union_right}
use Rattle.apply_plan.specs.Turns.{IsIn}
use Rattle.apply_plan.specs.TurnLemmas.{is_apart}
use Rattle.apply_plan.specs.NextLemmas.{all_places, none_left}
use Rattle.apply_plan.specs.FirstHolderLemmas.{same_here}
use Rattle.direct_finish.specs.declared.bounds.Bounds.{Bounds}
use Rattle.direct_finish.specs.Bounded.{IsBounded, AreBounded, IsWithin, own_of}

module _ (k : KernelState) (reserved : Ids) (entries : List Entry) (valid : IsHandover (record { entries = entries; reserved = reserved })) (e : Entry) (at : IsIn entries e)
    (b : Bounds) (bounded : AreBounded k reserved entries b) where
  -- what it lacks of its target
  abbrev pub lacking : Ids
  lacking = set.difference e.target (held k e)

  -- no CPU that it lacks is within what bounds its rivals
  abbrev pub IsOut : Type 0
  IsOut = (d : Entry) (q : ℕ) → (e.pinned || d.pinned) ≡ true → IsBounded k reserved b d → lets_go k reserved d ≡ true → set.contains e.target q ≡ true
      → set.contains (held k e) q ≡ false → set.contains (held k d) q ≡ true → set.contains reserved q ≡ false → ⊥

  none_holds : IsOut → (d : Entry) → IsBounded k reserved b d → (same_group e.group d.group ≡ false → AreTargetsApart reserved e d) → holds_some k reserved e lacking d ≡ false
  none_holds out d bound apart = by_test (is_rival k e d)
      (λ rival. ap (λ x. is_rival k e d && x) (own_none reserved (set.intersection lacking (held k d)) (λ q m. reserved_one rival q m)) ∙ and_false (is_rival k e d))
      (λ none. ap (λ x. x && has_own reserved (set.intersection lacking (held k d))) none)
    where
      and_false : (x : Bool) → (x && false) ≡ false
      and_false true = refl
      and_false false = refl

      parts : is_rival k e d ≡ true → ((e.pinned || d.pinned) ≡ true) × ((same_group e.group d.group ≡ false) × (is_alive k.table d.pid ≡ true))
      parts rival = by (e.pinned || d.pinned) (same_group e.group d.group) (is_alive k.table d.pid) rival where
        by : (p s a : Bool) → (p && (not s && a)) ≡ true → (p ≡ true) × ((s ≡ false) × (a ≡ true))
        by true false true r = (refl, (refl, refl))
        by true false false r = absurd (false≢true r)
        by true true a r = absurd (false≢true r)
        by false s a r = absurd (false≢true r)

      reserved_one : is_rival k e d ≡ true → (q : ℕ) → set.contains (set.intersection lacking (held k d)) q ≡ true → set.contains reserved q ≡ true
      reserved_one rival q m =
          let known = parts rival in
          let in_both = in_meet lacking (held k d) q m in
          let lacks = in_minus e.target (held k e) q in_both.0 in
          by_test (set.contains reserved q) (λ r. r)
          (λ free. by_test (lets_go k reserved d)
          (λ lets. absurd (out d q known.0 bound lets lacks.0 lacks.1 in_both.1 free))
          (λ keeps. by_test (set.contains d.target q)
          (λ own. apart known.1.0 known.0 q lacks.0 own)
          (λ off. none_own reserved (set.difference (held k d) d.target)
          (sym (ap (λ x. x && has_own reserved (set.difference (held k d) d.target)) known.1.1) ∙ keeps) q
          (minus_has (held k d) d.target q in_both.1 off))))

  free_if_out : IsOut → are_free k reserved entries e e.target ≡ true
  free_if_out out = ap is_none (none_found (holds_some k reserved e lacking) entries
      (all_map2 (IsBounded k reserved b) (λ d. same_group e.group d.group ≡ false → AreTargetsApart reserved e d) (λ d. holds_some k reserved e lacking d ≡ false)
      (none_holds out) entries bounded (is_apart entries reserved valid e at)))

  pub free_pinned : IsDisjoint (set.difference b.held (held k e)) e.target → are_free k reserved entries e e.target ≡ true
  free_pinned apart = free_if_out (λ d q pinned bound lets mine lacks theirs free.
      apart q (minus_has b.held (held k e) q (bound.all lets q theirs free) lacks) mine)

  pub free_at_sight : IsDisjoint b.held e.target → are_free k reserved entries e e.target ≡ true
  free_at_sight apart = free_if_out (λ d q pinned bound lets mine lacks theirs free. apart q (bound.all lets q theirs free) mine)

  pub free_shared : e.pinned ≡ false → IsDisjoint (own_of b) e.target → are_free k reserved entries e e.target ≡ true
  free_shared shared apart = free_if_out (λ d q pinned bound lets mine lacks theirs free.
      apart q (bound.own lets (ap (λ p. p || d.pinned) (sym shared) ∙ pinned) q theirs free) mine)

-- one that need not move has nothing to let go
pub rests_bounded : (k : KernelState) (reserved : Ids) (b : Bounds) (d : Entry) → lets_go k reserved d ≡ false → IsBounded k reserved b d
rests_bounded k reserved b d rests = record {
  all = λ lets. absurd (false≢true (sym rests ∙ lets));
  own = λ lets. absurd (false≢true (sym rests ∙ lets));
}

pub rests_if_arrived : (k : KernelState) (reserved : Ids) (d : Entry) → must_move k d ≡ false → lets_go k reserved d ≡ false
rests_if_arrived k reserved d stays = by_test (lets_go k reserved d) (λ lets. absurd (false≢true (sym stays ∙ lets_moves k reserved d lets))) (λ f. f)

pub rests_if_grows : (k : KernelState) (reserved : Ids) (d : Entry) → has_own reserved (set.difference (held k d) d.target) ≡ false → lets_go k reserved d ≡ false
rests_if_grows k reserved d none = ap (λ x. is_alive k.table d.pid && x) none ∙ and_false (is_alive k.table d.pid) where
  and_false : (x : Bool) → (x && false) ≡ false
  and_false true = refl
  and_false false = refl

pub within_more : (k : KernelState) (reserved : Ids) (a b : Bounds) (d : Entry) → IsWithin a b → IsBounded k reserved a d → IsBounded k reserved b d
within_more k reserved a b d within bound = record {
  all = λ lets q m free. within.all q (bound.all lets q m free);
  own = λ lets pinned q m free. within.own q (bound.own lets pinned q m free);
}

pub within_itself : (a b : Bounds) → b ≡ a → IsWithin a b
within_itself a b same = record {
  all = λ q m. ap (λ (x : Bounds). set.contains x.held q) same ∙ m;
  own = λ q m. ap (λ (x : Bounds). set.contains (own_of x) q) same ∙ m;
}

-- what one more holds is added
module _ (k : KernelState) (reserved : Ids) (a b : Bounds) (d : Entry) (h : Ids) (is_held : h ≡ held k d) (all_is : b.held ≡ set.union a.held h)
    (own_is : own_of b ≡ set.union (own_of a) (cond d.pinned h set.empty)) where
  pub added_within : IsWithin a b
  added_within = record {
    all = λ q m. ap (λ s. set.contains s q) all_is ∙ union_left a.held h q m;
    own = λ q m. ap (λ s. set.contains s q) own_is ∙ union_left (own_of a) (cond d.pinned h set.empty) q m;
  }

  pub added_bounded : IsBounded k reserved b d
  added_bounded = record {
    all = λ lets q m free. ap (λ s. set.contains s q) all_is ∙ union_right a.held h q (ap (λ s. set.contains s q) is_held ∙ m);
    own = λ lets pinned q m free.
        ap (λ s. set.contains s q) own_is
        ∙ union_right (own_of a) (cond d.pinned h set.empty) q (ap (λ p. set.contains (cond p h set.empty) q) pinned ∙ ap (λ s. set.contains s q) is_held ∙ m);
  }

-- the reserved CPUs are taken out of bounds
pub outside_bounded : (k : KernelState) (reserved : Ids) (a b : Bounds) (d : Entry) → b.held ≡ set.difference a.held reserved → own_of b ≡ set.difference (own_of a) reserved
    → IsBounded k reserved a d → IsBounded k reserved b d
outside_bounded k reserved a b d all_is own_is bound = record {
  all = λ lets q m free. ap (λ s. set.contains s q) all_is ∙ minus_has a.held reserved q (bound.all lets q m free) free;
  own = λ lets pinned q m free. ap (λ s. set.contains s q) own_is ∙ minus_has (own_of a) reserved q (bound.own lets pinned q m free) free;
}

-- one more entry of a look
pub one_more_bounded : (k : KernelState) (reserved : Ids) (entries : List Entry) (a b : Bounds) (i : ℕ) (e : Entry) → i < length entries → e ≡ get_or entries i e
    → IsWithin a b → IsBounded k reserved b e → ((j : ℕ) (d : Entry) → j < i → d ≡ get_or entries j d → IsBounded k reserved a d)
    → (j : ℕ) (d : Entry) → j < i + 1 → d ≡ get_or entries j d → IsBounded k reserved b d
one_more_bounded k reserved entries a b i e within at grows here before j d less is = elim (cases_lt j i) [
  | inl earlier ↦ within_more k reserved a b d grows (before j d earlier is)
  | inr last ↦
      let same : j ≡ i = omega (arith, less, last) in
      let one : d ≡ e = same_here entries i d e within (subst (λ n. d ≡ get_or entries n d) same is) at in
      subst (IsBounded k reserved b) (sym one) here
]

pub all_bounded : (k : KernelState) (reserved : Ids) (entries : List Entry) (a b : Bounds) (i : ℕ) → length entries ≤ i → b.held ≡ set.difference a.held reserved
    → own_of b ≡ set.difference (own_of a) reserved → ((j : ℕ) (d : Entry) → j < i → d ≡ get_or entries j d → IsBounded k reserved a d)
    → AreBounded k reserved entries b
all_bounded k reserved entries a b i past all_is own_is before =
    all_places (IsBounded k reserved b) entries
    (λ j d within is. outside_bounded k reserved a b d all_is own_is (before j d (omega (arith, past, within)) is))

-- whether nobody must move, one entry after another
pub none_moves_on : (k : KernelState) (entries : List Entry) (i : ℕ) (e : Entry) (so_far next : Bool) → i < length entries → e ≡ get_or entries i e
    → next ≡ (so_far && not (must_move k e))
    → (so_far && is_none (find (must_move k) (drop i entries))) ≡ is_none (find (must_move k) entries)
    → (next && is_none (find (must_move k) (drop (i + 1) entries))) ≡ is_none (find (must_move k) entries)
none_moves_on k entries i e so_far next within at is before =
    ap (λ b. b && is_none (find (must_move k) (drop (i + 1) entries))) is
    ∙ turn so_far (must_move k e)
    ∙ ap (λ xs. so_far && is_none (find (must_move k) xs)) (sym (drop_more entries i e within ∙ ap (λ x. x ∷ drop (i + 1) entries) (sym at)))
    ∙ before
  where
    turn : (s m : Bool) → ((s && not m) && is_none (find (must_move k) (drop (i + 1) entries)))
        ≡ (s && is_none (cond m (Some e) (find (must_move k) (drop (i + 1) entries))))
    turn true true = refl
    turn true false = refl
    turn false m = refl

pub none_moves_at_end : (k : KernelState) (entries : List Entry) (i : ℕ) (so_far : Bool) → length entries ≤ i
    → (so_far && is_none (find (must_move k) (drop i entries))) ≡ is_none (find (must_move k) entries) → so_far ≡ is_none (find (must_move k) entries)
none_moves_at_end k entries i so_far past is =
    turn so_far ∙ ap (λ o. so_far && is_none o) (sym (none_left (must_move k) entries i past)) ∙ is
  where
    turn : (s : Bool) → s ≡ (s && true)
    turn true = refl
    turn false = refl

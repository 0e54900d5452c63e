-- What one container is asked for, and what it may get, as what all of them hold and ask for together tells it.
use Rattle.std.proofs.Common.{◌≡◌, ℕ, Bool, true, false, not, ◌&&◌, ◌||◌, List, refl, sym, ap, ◌∙◌}
use Rattle.std.proofs.lemmas.Bool.{false≢true}
use Rattle.std.specs.Prelude.{cond, find, Option, Some, None, is_none, is_some}
use Rattle.std.specs.List.{AllByRecursion}
use Rattle.std.specs.FinSet as set
use Rattle.cpu_set.specs.Ids.{Ids}
use Rattle.cpu_set.specs.PointwiseLaws.{same_members, contains-is_subset}
use Rattle.cpuset_tree.specs.Groups.{same_group, requested_cpus}
use Rattle.cpuset_tree.specs.GroupLemmas.{same_group-equal}
use Rattle.proctable.specs.Processes.{is_alive}
use Rattle.kernel_model.specs.KernelState.{KernelState}
use Rattle.apply_plan.specs.declared.entry.Entry.{Entry}
use Rattle.apply_plan.specs.Targets.{AreTargetsApart}
use Rattle.apply_plan.specs.DueWrite.{held, must_move}
use Rattle.apply_plan.specs.ListLemmas.{all_map, all_map2, find_none, none_found}
use Rattle.apply_plan.specs.WriteLemmas.{by_test}
use Rattle.apply_plan.specs.DirectWords.{has_own, is_rival, holds_some, are_free, lets_go, asks, holds_up, blocks, all_of_those, taken, asked, spare, places, way}
use Rattle.apply_plan.specs.Overviews.{all_held, pinned_held, letting, moving, others, asks_together}
use Rattle.apply_plan.specs.DirectLemmas.{none_own, own_none, or_true}
use Rattle.apply_plan.specs.SetMemberLaws.{in_meet, in_minus, in_union, meet_has, minus_has, union_left, union_right, in_all, of_all, one_of_two}

pub same_answers : (x y : Bool) → (x ≡ true → y ≡ true) → (y ≡ true → x ≡ true) → x ≡ y
same_answers true y f g = sym (f refl)
same_answers false true f g = g refl
same_answers false false f g = refl

none_of : {A : Type 0} (o : Option A) → is_none o ≡ true → o ≡ None
none_of None e = refl
none_of (Some x) e = absurd (false≢true e)

module _ (k : KernelState) (reserved : Ids) (entries : List Entry) (e : Entry) where
  -- which of the others count for e
  abbrev pub counts : Entry → Bool
  counts d = cond e.pinned (is_alive k.table d.pid) (d.pinned && is_alive k.table d.pid)

  -- who may ask of e
  abbrev pub might_ask : Entry → Bool
  might_ask d = cond e.pinned (d.pinned && lets_go k reserved d) (d.pinned && must_move k d)

  others_are : others k reserved entries e ≡ all_of_those counts (held k) entries
  others_are = by e.pinned where
    by : (b : Bool) → cond b (all_held k reserved entries) (pinned_held k reserved entries)
        ≡ all_of_those (λ d. cond b (is_alive k.table d.pid) (d.pinned && is_alive k.table d.pid)) (held k) entries
    by true = refl
    by false = refl

  asks_are : cond e.pinned (letting k reserved entries) (moving k reserved entries) ≡ all_of_those might_ask (λ d. d.target) entries
  asks_are = by e.pinned where
    by : (b : Bool) → cond b (letting k reserved entries) (moving k reserved entries)
        ≡ all_of_those (λ d. cond b (d.pinned && lets_go k reserved d) (d.pinned && must_move k d)) (λ d. d.target) entries
    by true = refl
    by false = refl

  rival_counts : (d : Entry) → is_rival k e d ≡ true → counts d ≡ true
  rival_counts d rival = by e.pinned d.pinned (same_group e.group d.group) (is_alive k.table d.pid) rival where
    by : (p x s a : Bool) → ((p || x) && (not s && a)) ≡ true → cond p a (x && a) ≡ true
    by true x true a r = absurd (false≢true r)
    by true x false a r = r
    by false true true a r = absurd (false≢true r)
    by false true false a r = r
    by false false s a r = absurd (false≢true r)

  -- who holds what e does not is another one
  pub is_other : (d : Entry) (q : ℕ) → set.contains (held k e) q ≡ false → set.contains (held k d) q ≡ true → same_group e.group d.group ≡ false
  is_other d q out m = by_test (same_group e.group d.group)
      (λ same. absurd (false≢true (sym out ∙ ap (λ g. set.contains (requested_cpus k.tree g) q) (same_group-equal e.group d.group same) ∙ m)))
      (λ other. other)

  counts_rival : (d : Entry) → counts d ≡ true → same_group e.group d.group ≡ false → is_rival k e d ≡ true
  counts_rival d c other = by e.pinned d.pinned (same_group e.group d.group) (is_alive k.table d.pid) c other where
    by : (p x s a : Bool) → cond p a (x && a) ≡ true → s ≡ false → ((p || x) && (not s && a)) ≡ true
    by true x true a c o = absurd (false≢true (sym o))
    by true x false a c o = c
    by false true true a c o = absurd (false≢true (sym o))
    by false true false a c o = c
    by false false s a c o = absurd (false≢true c)

  -- of what e does not hold, its rivals hold what the others do
  taken_off : (q : ℕ) → set.contains (held k e) q ≡ false → set.contains (taken k entries e) q ≡ set.contains (others k reserved entries e) q
  taken_off q out =
      same_answers (set.contains (taken k entries e) q) (set.contains (all_of_those counts (held k) entries) q)
      (of_all (is_rival k e) (held k) q (set.contains (all_of_those counts (held k) entries) q) entries
      (all_map (λ d. counts d ≡ true → (q : ℕ) → set.contains (held k d) q ≡ true → set.contains (all_of_those counts (held k) entries) q ≡ true)
      (λ d. is_rival k e d ≡ true → set.contains (held k d) q ≡ true → set.contains (all_of_those counts (held k) entries) q ≡ true)
      (λ d f rival m. f (rival_counts d rival) q m) entries (in_all counts (held k) entries)))
      (of_all counts (held k) q (set.contains (taken k entries e) q) entries
      (all_map (λ d. is_rival k e d ≡ true → (q : ℕ) → set.contains (held k d) q ≡ true → set.contains (taken k entries e) q ≡ true)
      (λ d. counts d ≡ true → set.contains (held k d) q ≡ true → set.contains (taken k entries e) q ≡ true)
      (λ d f c m. f (counts_rival d c (is_other d q out m)) q m) entries (in_all (is_rival k e) (held k) entries)))
      ∙ ap (λ s. set.contains s q) (sym others_are)

  -- its target is free where the others hold none of what it lacks of it
  pub free_together : are_free k reserved entries e e.target ≡ set.is_subset (set.intersection (set.difference e.target (held k e)) (others k reserved entries e)) reserved
  free_together = same_answers (are_free k reserved entries e e.target) (set.is_subset (set.intersection (set.difference e.target (held k e)) (others k reserved entries e)) reserved)
      (λ free. contains-is_subset (set.intersection (set.difference e.target (held k e)) (others k reserved entries e)) reserved
      (λ q m.
      let in_both = in_meet (set.difference e.target (held k e)) (others k reserved entries e) q m in
      let lacking = in_minus e.target (held k e) q in_both.0 in
      of_all (is_rival k e) (held k) q (set.contains reserved q) entries
      (all_map (λ d. holds_some k reserved e (set.difference e.target (held k e)) d ≡ false) (λ d. is_rival k e d ≡ true → set.contains (held k d) q ≡ true → set.contains reserved q ≡ true)
      (λ d none rival there. none_own reserved (set.intersection (set.difference e.target (held k e)) (held k d))
      (sym (ap (λ b. b && has_own reserved (set.intersection (set.difference e.target (held k e)) (held k d))) rival) ∙ none) q
      (meet_has (set.difference e.target (held k e)) (held k d) q in_both.0 there)) entries
      (find_none (holds_some k reserved e (set.difference e.target (held k e))) entries (none_of _ free)))
      (taken_off q lacking.1 ∙ in_both.1)))
      (λ within. ap is_none (none_found (holds_some k reserved e (set.difference e.target (held k e))) entries
      (all_map (λ d. is_rival k e d ≡ true → (q : ℕ) → set.contains (held k d) q ≡ true → set.contains (taken k entries e) q ≡ true)
      (λ d. holds_some k reserved e (set.difference e.target (held k e)) d ≡ false)
      (λ d inside. by_test (is_rival k e d)
      (λ rival. ap (λ b. is_rival k e d && b) (own_none reserved (set.intersection (set.difference e.target (held k e)) (held k d))
      (λ q m.
      let in_both = in_meet (set.difference e.target (held k e)) (held k d) q m in
      let lacking = in_minus e.target (held k e) q in_both.0 in
      none_own reserved (set.intersection (set.difference e.target (held k e)) (others k reserved entries e)) (ap not within) q
      (meet_has (set.difference e.target (held k e)) (others k reserved entries e) q in_both.0 (sym (taken_off q lacking.1) ∙ inside rival q in_both.1))))
      ∙ and_false (is_rival k e d))
      (λ none. ap (λ b. b && has_own reserved (set.intersection (set.difference e.target (held k e)) (held k d))) none)) entries
      (in_all (is_rival k e) (held k) entries))))
    where
      and_false : (x : Bool) → (x && false) ≡ false
      and_false true = refl
      and_false false = refl

  module _ (apart : AllByRecursion (λ a. same_group e.group a.group ≡ false → AreTargetsApart reserved e a) entries)
      (alone : AllByRecursion (λ a. same_group e.group a.group ≡ true → a ≡ e) entries) where
    asks_might : (d : Entry) → asks k reserved e d ≡ true → (might_ask d ≡ true) × ((d.pinned ≡ true) × (same_group e.group d.group ≡ false))
    asks_might d it = by e.pinned d.pinned (same_group e.group d.group) (lets_go k reserved d) (must_move k d) it where
      by : (p x s l m : Bool) → (x && (not s && cond p l m)) ≡ true → (cond p (x && l) (x && m) ≡ true) × ((x ≡ true) × (s ≡ false))
      by true true false l m a = (a, (refl, refl))
      by false true false l m a = (a, (refl, refl))
      by p true true l m a = absurd (false≢true a)
      by p false s l m a = absurd (false≢true a)

    might_asks : (d : Entry) → might_ask d ≡ true → same_group e.group d.group ≡ false → asks k reserved e d ≡ true
    might_asks d it other = by e.pinned d.pinned (same_group e.group d.group) (lets_go k reserved d) (must_move k d) it other where
      by : (p x s l m : Bool) → cond p (x && l) (x && m) ≡ true → s ≡ false → (x && (not s && cond p l m)) ≡ true
      by true true false l m a b = a
      by false true false l m a b = a
      by p true true l m a b = absurd (false≢true (sym b))
      by true false s l m a b = absurd (false≢true a)
      by false false s l m a b = absurd (false≢true a)

    asks_them : Ids
    asks_them = all_of_those might_ask (λ d. d.target) entries

    -- outside the reserved CPUs, what is asked of e is what is asked together, without its own target
    asked_off : (q : ℕ) → set.contains reserved q ≡ false → set.contains (asked k reserved entries e) q ≡ set.contains (asks_together k reserved entries e) q
    asked_off q out =
        same_answers (set.contains (asked k reserved entries e) q) (set.contains (set.difference (all_of_those might_ask (λ d. d.target) entries) e.target) q)
        (of_all (asks k reserved e) (λ d. d.target) q (set.contains (set.difference (all_of_those might_ask (λ d. d.target) entries) e.target) q) entries
        (all_map2 (λ d. might_ask d ≡ true → (q : ℕ) → set.contains d.target q ≡ true → set.contains (all_of_those might_ask (λ d. d.target) entries) q ≡ true)
        (λ d. same_group e.group d.group ≡ false → AreTargetsApart reserved e d)
        (λ d. asks k reserved e d ≡ true → set.contains d.target q ≡ true → set.contains (set.difference (all_of_those might_ask (λ d. d.target) entries) e.target) q ≡ true)
        (λ d inside other it there.
        let known = asks_might d it in
        minus_has (all_of_those might_ask (λ d. d.target) entries) e.target q (inside known.0 q there)
        (by_test (set.contains e.target q)
        (λ own. absurd (false≢true (sym out ∙ other known.1.1 (ap (λ p. e.pinned || p) known.1.0 ∙ or_true e.pinned) q own there)))
        (λ off. off))) entries (in_all might_ask (λ d. d.target) entries) apart))
        (λ m.
        let parts = in_minus (all_of_those might_ask (λ d. d.target) entries) e.target q m in
        of_all might_ask (λ d. d.target) q (set.contains (asked k reserved entries e) q) entries
        (all_map2 (λ d. asks k reserved e d ≡ true → (q : ℕ) → set.contains d.target q ≡ true → set.contains (asked k reserved entries e) q ≡ true)
        (λ d. same_group e.group d.group ≡ true → d ≡ e)
        (λ d. might_ask d ≡ true → set.contains d.target q ≡ true → set.contains (asked k reserved entries e) q ≡ true)
        (λ d inside same it there. inside (might_asks d it (by_test (same_group e.group d.group)
        (λ is. absurd (false≢true (sym parts.1 ∙ ap (λ (z : Entry). set.contains z.target q) (sym (same is)) ∙ there)))
        (λ off. off))) q there) entries (in_all (asks k reserved e) (λ d. d.target) entries) alone) parts.0)
        ∙ ap (λ s. set.contains (set.difference s e.target) q) (sym asks_are)

    pub way_together : way k reserved entries e
        ≡ set.union (set.difference (held k e) (set.difference (asks_together k reserved entries e) reserved)) (set.difference e.target (others k reserved entries e))
    way_together = same_members _ _ (λ q. same_answers
        (set.contains (way k reserved entries e) q)
        (set.contains (set.union (set.difference (held k e) (set.difference (asks_together k reserved entries e) reserved)) (set.difference e.target (others k reserved entries e))) q)
        (λ m. one_of_two (in_union (set.difference (held k e) (set.difference (asked k reserved entries e) reserved)) (set.difference e.target (taken k entries e)) q m)
        (λ stays. let parts = in_minus (held k e) (set.difference (asked k reserved entries e) reserved) q stays in
        union_left (set.difference (held k e) (set.difference (asks_together k reserved entries e) reserved)) (set.difference e.target (others k reserved entries e)) q
        (minus_has (held k e) (set.difference (asks_together k reserved entries e) reserved) q parts.0
        (off_too (asks_together k reserved entries e) (asked k reserved entries e) q (λ out. sym (asked_off q out)) parts.1)))
        (λ comes. let parts = in_minus e.target (taken k entries e) q comes in
        by_test (set.contains (held k e) q)
        (λ own. union_left (set.difference (held k e) (set.difference (asks_together k reserved entries e) reserved)) (set.difference e.target (others k reserved entries e)) q
        (minus_has (held k e) (set.difference (asks_together k reserved entries e) reserved) q own (not_of_its (cond e.pinned (letting k reserved entries) (moving k reserved entries)) q parts.0)))
        (λ out. union_right (set.difference (held k e) (set.difference (asks_together k reserved entries e) reserved)) (set.difference e.target (others k reserved entries e)) q
        (minus_has e.target (others k reserved entries e) q parts.0 (sym (taken_off q out) ∙ parts.1)))))
        (λ m. one_of_two (in_union (set.difference (held k e) (set.difference (asks_together k reserved entries e) reserved)) (set.difference e.target (others k reserved entries e)) q m)
        (λ stays. let parts = in_minus (held k e) (set.difference (asks_together k reserved entries e) reserved) q stays in
        union_left (set.difference (held k e) (set.difference (asked k reserved entries e) reserved)) (set.difference e.target (taken k entries e)) q
        (minus_has (held k e) (set.difference (asked k reserved entries e) reserved) q parts.0
        (off_too (asked k reserved entries e) (asks_together k reserved entries e) q (λ out. asked_off q out) parts.1)))
        (λ comes. let parts = in_minus e.target (others k reserved entries e) q comes in
        by_test (set.contains (held k e) q)
        (λ own. union_left (set.difference (held k e) (set.difference (asked k reserved entries e) reserved)) (set.difference e.target (taken k entries e)) q
        (minus_has (held k e) (set.difference (asked k reserved entries e) reserved) q own
        (off_too (asked k reserved entries e) (asks_together k reserved entries e) q (λ out. asked_off q out)
        (not_of_its (cond e.pinned (letting k reserved entries) (moving k reserved entries)) q parts.0))))
        (λ out. union_right (set.difference (held k e) (set.difference (asked k reserved entries e) reserved)) (set.difference e.target (taken k entries e)) q
        (minus_has e.target (taken k entries e) q parts.0 (taken_off q out ∙ parts.1))))))
      where
        -- where two sets are alike outside the reserved CPUs, what is in none of one is in none of the other
        off_too : (s t : Ids) (q : ℕ) → (set.contains reserved q ≡ false → set.contains s q ≡ set.contains t q) → set.contains (set.difference t reserved) q ≡ false
            → set.contains (set.difference s reserved) q ≡ false
        off_too s t q alike off = by_test (set.contains (set.difference s reserved) q)
            (λ m. let parts = in_minus s reserved q m in absurd (false≢true (sym off ∙ minus_has t reserved q (sym (alike parts.1) ∙ parts.0) parts.1)))
            (λ m. m)

        not_of_its : (s : Ids) (q : ℕ) → set.contains e.target q ≡ true → set.contains (set.difference (set.difference s e.target) reserved) q ≡ false
        not_of_its s q own = by_test (set.contains (set.difference (set.difference s e.target) reserved) q)
            (λ m. absurd (false≢true (sym (in_minus s e.target q (in_minus (set.difference s e.target) reserved q m).0).1 ∙ own)))
            (λ m. m)

    pub places_together : (allowed : Ids) → places k reserved entries allowed e ≡ set.difference (set.intersection allowed (spare k reserved entries)) (asks_together k reserved entries e)
    places_together allowed = same_members _ _ (λ q. same_answers
        (set.contains (places k reserved entries allowed e) q)
        (set.contains (set.difference (set.intersection allowed (spare k reserved entries)) (asks_together k reserved entries e)) q)
        (λ m. let parts = in_minus (set.intersection allowed (spare k reserved entries)) (asked k reserved entries e) q m in
        minus_has (set.intersection allowed (spare k reserved entries)) (asks_together k reserved entries e) q parts.0 (sym (asked_off q (free q parts.0)) ∙ parts.1))
        (λ m. let parts = in_minus (set.intersection allowed (spare k reserved entries)) (asks_together k reserved entries e) q m in
        minus_has (set.intersection allowed (spare k reserved entries)) (asked k reserved entries e) q parts.0 (asked_off q (free q parts.0) ∙ parts.1)))
      where
        free : (q : ℕ) → set.contains (set.intersection allowed (spare k reserved entries)) q ≡ true → set.contains reserved q ≡ false
        free q m = (in_minus k.tree.online reserved q (in_minus (set.difference k.tree.online reserved) (all_held k reserved entries) q (in_meet allowed (spare k reserved entries) q m).1).0).1

    -- it holds up somebody where it holds some of what is asked together
    held_up : has_own reserved (set.intersection (held k e) (asks_together k reserved entries e)) ≡ false → find (holds_up k reserved e) entries ≡ None
    held_up none = none_found (holds_up k reserved e) entries
        (all_map (λ d. asks k reserved e d ≡ true → (q : ℕ) → set.contains d.target q ≡ true → set.contains (asked k reserved entries e) q ≡ true)
        (λ d. holds_up k reserved e d ≡ false) one entries (in_all (asks k reserved e) (λ d. d.target) entries)) where
          member : (d : Entry) → (asks k reserved e d ≡ true → (q : ℕ) → set.contains d.target q ≡ true → set.contains (asked k reserved entries e) q ≡ true)
              → asks k reserved e d ≡ true → (q : ℕ) → set.contains (set.intersection (held k e) d.target) q ≡ true → set.contains reserved q ≡ true
          member d inside it q m =
              let in_both = in_meet (held k e) d.target q m in
              by_test (set.contains reserved q) (λ r. r)
              (λ out. none_own reserved (set.intersection (held k e) (asks_together k reserved entries e)) none q
              (meet_has (held k e) (asks_together k reserved entries e) q in_both.0 (sym (asked_off q out) ∙ inside it q in_both.1)))

          one : (d : Entry) → (asks k reserved e d ≡ true → (q : ℕ) → set.contains d.target q ≡ true → set.contains (asked k reserved entries e) q ≡ true)
              → holds_up k reserved e d ≡ false
          one d inside = by_test (asks k reserved e d)
              (λ it. ap (λ b. asks k reserved e d && b) (own_none reserved (set.intersection (held k e) d.target) (member d inside it)) ∙ and_false (asks k reserved e d))
              (λ off. ap (λ b. b && has_own reserved (set.intersection (held k e) d.target)) off) where
                and_false : (x : Bool) → (x && false) ≡ false
                and_false true = refl
                and_false false = refl

    not_held_up : find (holds_up k reserved e) entries ≡ None → has_own reserved (set.intersection (held k e) (asks_together k reserved entries e)) ≡ false
    not_held_up none = own_none reserved (set.intersection (held k e) (asks_together k reserved entries e)) (λ q m. member q m) where
      one : (q : ℕ) → set.contains (held k e) q ≡ true → (d : Entry) → holds_up k reserved e d ≡ false → asks k reserved e d ≡ true → set.contains d.target q ≡ true
          → set.contains reserved q ≡ true
      one q own d off it there =
          none_own reserved (set.intersection (held k e) d.target)
          (sym (ap (λ b. b && has_own reserved (set.intersection (held k e) d.target)) it) ∙ off) q (meet_has (held k e) d.target q own there)

      member : (q : ℕ) → set.contains (set.intersection (held k e) (asks_together k reserved entries e)) q ≡ true → set.contains reserved q ≡ true
      member q m =
          let in_both = in_meet (held k e) (asks_together k reserved entries e) q m in
          by_test (set.contains reserved q) (λ r. r)
          (λ out. of_all (asks k reserved e) (λ d. d.target) q (set.contains reserved q) entries
          (all_map (λ d. holds_up k reserved e d ≡ false) (λ d. asks k reserved e d ≡ true → set.contains d.target q ≡ true → set.contains reserved q ≡ true)
          (one q in_both.0) entries (find_none (holds_up k reserved e) entries none))
          (asked_off q out ∙ in_both.1))

    pub blocks_together : blocks k reserved entries e ≡ (is_alive k.table e.pid && has_own reserved (set.intersection (held k e) (asks_together k reserved entries e)))
    blocks_together = ap (λ b. is_alive k.table e.pid && b)
        (by (find (holds_up k reserved e) entries) (has_own reserved (set.intersection (held k e) (asks_together k reserved entries e))) refl refl) where
          by : (o : Option Entry) (b : Bool) → find (holds_up k reserved e) entries ≡ o → has_own reserved (set.intersection (held k e) (asks_together k reserved entries e)) ≡ b
              → is_some o ≡ b
          by (Some d) true at own = refl
          by None false at own = refl
          by (Some d) false at own = absurd (false≢true (ap is_some (sym (held_up own) ∙ at)))
          by None true at own = absurd (false≢true (sym (not_held_up at) ∙ own))

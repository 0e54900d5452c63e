-- Which write is due in the direct order, case by case; each is one that may be made.
use Rattle.std.proofs.Common.{◌≡◌, ℕ, ◌≤◌, max, Bool, true, false, not, ◌&&◌, ◌||◌, List, [], ◌∷◌, refl, sym, ap, ◌∙◌, subst, inl, inr}
use Rattle.std.proofs.lemmas.Bool.{false≢true}
use Rattle.std.specs.Prelude.{◌⊎◌, cond, find, Option, Some, None, option_map}
use Rattle.std.specs.List.{AllByRecursion}
use Rattle.std.specs.FinSet as set
use Rattle.cpu_set.specs.Ids.{Ids, is_empty}
use Rattle.cpu_set.specs.PointwiseLaws.{same_members, contains-difference}
use Rattle.cpu_set.specs.SetLaws.{is_empty-some, none_of_empty}
use Rattle.kernel_model.specs.KernelState.{KernelState}
use Rattle.apply_plan.specs.declared.entry.Entry.{Entry}
use Rattle.apply_plan.specs.declared.scan.Write.{Write}
use Rattle.apply_plan.specs.Targets.{IsHandover, AreTargetsApart}
use Rattle.apply_plan.specs.DueWrite.{held}
use Rattle.apply_plan.specs.ListLemmas.{find_passes}
use Rattle.apply_plan.specs.WriteLemmas.{by_test}
use Rattle.apply_plan.specs.DirectWords.{has_own, may_take, blocks, places, way, spare, asked, all_of_those}
use Rattle.apply_plan.specs.Rings.{in_ring}
use Rattle.apply_plan.specs.MayWrite.{write_of}
use Rattle.apply_plan.specs.Directed.{Directed, allowed_of, Least, Serves}
use Rattle.apply_plan.specs.OnWay.{Makes}
use Rattle.apply_plan.specs.DirectWrite.{is_guarded, goes, is_new, is_mover, is_grower, must_yield, shares, has_room, shared_way, lacks, has_place, steps_aside, aside, squeezed, first_due, due_directly}
use Rattle.apply_plan.specs.DirectLemmas.{both_of, none_own, own_none}
use Rattle.cpuset_tree.specs.Groups.{same_group}
use Rattle.proctable.specs.Processes.{is_alive}
use Rattle.std.proofs.Math.Nat.{le-max_right}
use Rattle.apply_plan.specs.DirectedLemmas.{allowed_range}
use Rattle.apply_plan.specs.SetMemberLaws.{no_more, meet_has, in_meet, in_minus, in_union, minus_has, union_left, union_right, bigger_some}
use Rattle.apply_plan.specs.WayLemmas.{apart_from_it, gives_way, on_way}

-- no target of choice 1 is free
pub record NoneGoes (k : KernelState) (reserved : Ids) (entries : List Entry) : Type 0 where
  pub no_new : find (is_new k reserved entries) entries ≡ None
  pub no_mover : find (is_mover k reserved entries) entries ≡ None
  pub no_grower : find (is_grower k reserved entries) entries ≡ None

-- the write that is due, by who makes it
pub data Direct (d : Directed) (least : Least) (k : KernelState) : Option Write → Type 0 where
  Takes : (test : Entry → Bool) (e : Entry) → find test d.targets.entries ≡ Some e → may_take k d.targets.reserved d.targets.entries e ≡ true → Direct d least k (Some (write_of e e.target))
  Shares : (e : Entry) → NoneGoes k d.targets.reserved d.targets.entries → find (shares k d.targets.reserved d.targets.entries) d.targets.entries ≡ Some e
      → Direct d least k (Some (write_of e (shared_way k d.targets.reserved d.targets.entries e)))
  StepsAside : (e : Entry) → NoneGoes k d.targets.reserved d.targets.entries → find (shares k d.targets.reserved d.targets.entries) d.targets.entries ≡ None
      → find (steps_aside k d.targets.reserved d.targets.entries (allowed_of d) least) d.targets.entries ≡ Some e
      → Direct d least k (Some (write_of e (aside k d.targets.reserved d.targets.entries (allowed_of d) least e)))
  IsSqueezed : (e : Entry) → NoneGoes k d.targets.reserved d.targets.entries → find (shares k d.targets.reserved d.targets.entries) d.targets.entries ≡ None
      → find (steps_aside k d.targets.reserved d.targets.entries (allowed_of d) least) d.targets.entries ≡ None → find (must_yield k d.targets.reserved d.targets.entries) d.targets.entries ≡ Some e
      → Direct d least k (Some (write_of e (squeezed k d.targets.reserved d.targets.entries e)))
  Rests : NoneGoes k d.targets.reserved d.targets.entries → find (must_yield k d.targets.reserved d.targets.entries) d.targets.entries ≡ None
      → find (may_take k d.targets.reserved d.targets.entries) d.targets.entries ≡ None → Direct d least k None

module _ (d : Directed) (least : Least) (k : KernelState) where
  -- the entries, and the reserved CPUs
  abbrev pub entries : List Entry
  entries = d.targets.entries

  -- the reserved CPUs
  abbrev pub reserved : Ids
  reserved = d.targets.reserved

  -- one that goes may take its target
  takes_it : (e : Entry) → goes k reserved entries e ≡ true → may_take k reserved entries e ≡ true
  takes_it e on = (both_of (may_take k reserved entries e) (not (is_guarded k reserved entries e)) on).0

  new_takes : (e : Entry) → find (is_new k reserved entries) entries ≡ Some e → may_take k reserved entries e ≡ true
  new_takes e found =
      takes_it e (both_of (not (has_own reserved (held k e))) (goes k reserved entries e)
      (both_of e.pinned (not (has_own reserved (held k e)) && goes k reserved entries e) (find_passes (is_new k reserved entries) entries e found)).1).1

  pub direct_is : Direct d least k (due_directly d least k)
  direct_is =
      by (find (is_new k reserved entries) entries) (find (is_mover k reserved entries) entries) (find (is_grower k reserved entries) entries)
      (find (shares k reserved entries) entries) (find (steps_aside k reserved entries (allowed_of d) least) entries) (find (must_yield k reserved entries) entries)
      (find (may_take k reserved entries) entries) refl refl refl refl refl refl refl where
        by : (n m g s a y t : Option Entry) → find (is_new k reserved entries) entries ≡ n → find (is_mover k reserved entries) entries ≡ m → find (is_grower k reserved entries) entries ≡ g
            → find (shares k reserved entries) entries ≡ s → find (steps_aside k reserved entries (allowed_of d) least) entries ≡ a → find (must_yield k reserved entries) entries ≡ y
            → find (may_take k reserved entries) entries ≡ t
            → Direct d least k (first_due (
            option_map (λ e. write_of e e.target) n ∷ option_map (λ e. write_of e e.target) m ∷ option_map (λ e. write_of e e.target) g
            ∷ option_map (λ e. write_of e (shared_way k reserved entries e)) s ∷ option_map (λ e. write_of e (aside k reserved entries (allowed_of d) least e)) a
            ∷ option_map (λ e. write_of e (squeezed k reserved entries e)) y ∷ option_map (λ e. write_of e e.target) t ∷ []))
        by (Some e) m g s a y t is _ _ _ _ _ _ = Takes (is_new k reserved entries) e is (new_takes e is)
        by None (Some e) g s a y t _ is _ _ _ _ _ =
            Takes (is_mover k reserved entries) e is (takes_it e (both_of _ (goes k reserved entries e) (find_passes (is_mover k reserved entries) entries e is)).1)
        by None None (Some e) s a y t _ _ is _ _ _ _ =
            Takes (is_grower k reserved entries) e is (takes_it e (both_of e.pinned (goes k reserved entries e) (find_passes (is_grower k reserved entries) entries e is)).1)
        by None None None (Some e) a y t n m g is _ _ _ = Shares e (record { no_new = n; no_mover = m; no_grower = g }) is
        by None None None None (Some e) y t n m g s is _ _ = StepsAside e (record { no_new = n; no_mover = m; no_grower = g }) s is
        by None None None None None (Some e) t n m g s a is _ = IsSqueezed e (record { no_new = n; no_mover = m; no_grower = g }) s a is
        by None None None None None None (Some e) n m g s a y is = Takes (may_take k reserved entries) e is (find_passes (may_take k reserved entries) entries e is)
        by None None None None None None None n m g s a y t = Rests (record { no_new = n; no_mover = m; no_grower = g }) y t

module _ (d : Directed) (valid : IsHandover d.targets) (least : Least) (gives : Serves d least) (k : KernelState) where
  -- a set of which some is in another one is not empty
  some_if_own : (s t : Ids) → has_own d.targets.reserved (set.intersection s t) ≡ true → is_empty s ≡ false
  some_if_own s t own = is_empty-some s (λ none. false≢true (sym (own_none d.targets.reserved (set.intersection s t)
      (λ q m. absurd (false≢true (sym (none_of_empty s none q) ∙ (in_meet s t q m).0)))) ∙ own))

  some_if_meets : (s t : Ids) → is_empty (set.intersection s t) ≡ false → is_empty s ≡ false
  some_if_meets s t some = bigger_some (set.intersection s t) s (λ q m. (in_meet s t q m).0) some

  module _ (e : Entry) where
    -- what it has on its way
    abbrev pub its_way : Ids
    its_way = way k d.targets.reserved d.targets.entries e

    -- its places
    abbrev pub its_places : Ids
    its_places = places k d.targets.reserved d.targets.entries (allowed_of d e) e

    -- what it gets of its places
    abbrev pub extra : Ids
    extra = least (set.difference its_places its_way) (cond (has_room k d.targets.reserved d.targets.entries e) (lacks k d.targets.reserved d.targets.entries e) (max (lacks k d.targets.reserved d.targets.entries e) 1))

    -- a place is online, and not reserved
    pub of_spare : (q : ℕ) → set.contains its_places q ≡ true → (set.contains k.tree.online q ≡ true) × (set.contains d.targets.reserved q ≡ false)
    of_spare q m =
        let one = in_minus (set.intersection (allowed_of d e) (spare k d.targets.reserved d.targets.entries)) (asked k d.targets.reserved d.targets.entries e) q m in
        let two = in_meet (allowed_of d e) (spare k d.targets.reserved d.targets.entries) q one.0 in
        let three = in_minus (set.difference k.tree.online d.targets.reserved) (all_of_those (λ x. is_alive k.table x.pid) (held k) d.targets.entries) q two.1 in
        in_minus k.tree.online d.targets.reserved q three.0

    in_places : (q : ℕ) → set.contains its_places q ≡ true → set.contains (allowed_of d e) q ≡ true
    in_places q m =
        (in_meet (allowed_of d e) (spare k d.targets.reserved d.targets.entries) q
        (in_minus (set.intersection (allowed_of d e) (spare k d.targets.reserved d.targets.entries)) (asked k d.targets.reserved d.targets.entries e) q m).0).0

    -- where it has no room on its way, its places are beside its way
    places_left : has_room k d.targets.reserved d.targets.entries e ≡ false → its_places ≡ set.difference its_places its_way
    places_left none = same_members its_places (set.difference its_places its_way)
        (λ q. by_test (set.contains its_places q)
        (λ m. m ∙ sym (minus_has its_places its_way q m
        (by_test (set.contains its_way q)
        (λ in_way. absurd (false≢true (sym (of_spare q m).1
        ∙ none_own d.targets.reserved (set.intersection its_way k.tree.online) none q (meet_has its_way k.tree.online q in_way (of_spare q m).0))))
        (λ out. out))))
        (λ o. o ∙ sym (contains-difference its_places its_way q ∙ ap (λ b. b && not (set.contains its_way q)) o)))

    -- what it gets of its places are places
    pub extra_within : (q : ℕ) → set.contains extra q ≡ true → set.contains its_places q ≡ true
    extra_within q m =
        (in_minus its_places its_way q (gives.told.within (set.difference its_places its_way)
        (cond (has_room k d.targets.reserved d.targets.entries e) (lacks k d.targets.reserved d.targets.entries e) (max (lacks k d.targets.reserved d.targets.entries e) 1)) q m)).0

    pub extra_some : has_room k d.targets.reserved d.targets.entries e ≡ false → is_empty (least its_places 1) ≡ false → is_empty extra ≡ false
    extra_some none some =
        gives.told.some (set.difference its_places its_way)
        (cond (has_room k d.targets.reserved d.targets.entries e) (lacks k d.targets.reserved d.targets.entries e) (max (lacks k d.targets.reserved d.targets.entries e) 1))
        (λ q m. allowed_range d.targets.entries d.allowed e gives.ranged q (in_places q (in_minus its_places its_way q m).0))
        (subst (λ (s : Ids). is_empty (least s 1) ≡ false) (places_left none) some)
        (subst (λ (b : Bool). 1 ≤ cond b (lacks k d.targets.reserved d.targets.entries e) (max (lacks k d.targets.reserved d.targets.entries e) 1)) (sym none)
        (le-max_right (lacks k d.targets.reserved d.targets.entries e) 1))

    -- it steps aside onto some CPUs
    aside_some : steps_aside k d.targets.reserved d.targets.entries (allowed_of d) least e ≡ true → is_empty (set.union its_way extra) ≡ false
    aside_some aside_it = by_test (has_room k d.targets.reserved d.targets.entries e)
        (λ room. bigger_some its_way (set.union its_way extra) (λ q m. union_left its_way extra q m) (some_if_own its_way k.tree.online room))
        (λ none. bigger_some extra (set.union its_way extra) (λ q m. union_right its_way extra q m)
        (extra_some none (no_more (is_empty (least its_places 1)) (place (has_room k d.targets.reserved d.targets.entries e) (has_place k d.targets.reserved d.targets.entries (allowed_of d) least e) none
        (both_of (must_yield k d.targets.reserved d.targets.entries e) (has_room k d.targets.reserved d.targets.entries e || has_place k d.targets.reserved d.targets.entries (allowed_of d) least e)
        (both_of e.pinned (must_yield k d.targets.reserved d.targets.entries e && (has_room k d.targets.reserved d.targets.entries e || has_place k d.targets.reserved d.targets.entries (allowed_of d) least e)) aside_it).1).1))))
      where
        place : (x y : Bool) → x ≡ false → (x || y) ≡ true → y ≡ true
        place true y a b = absurd (false≢true (sym a))
        place false y a b = b

    module _ (test : Entry → Bool) (found : find test d.targets.entries ≡ Some e) (yields : must_yield k d.targets.reserved d.targets.entries e ≡ true) where
      apart : AllByRecursion (λ a. same_group e.group a.group ≡ false → AreTargetsApart d.targets.reserved e a) d.targets.entries
      apart = apart_from_it d.targets valid test e found

      -- what one gets is its way, with CPUs that are reserved or its places
      made : (cpus : Ids) → is_empty cpus ≡ false
          → ((q : ℕ) → set.contains cpus q ≡ true → (set.contains its_way q ≡ true) ⊎ ((set.contains d.targets.reserved q ≡ true) ⊎ (set.contains its_places q ≡ true)))
          → ((q : ℕ) → set.contains its_way q ≡ true → set.contains cpus q ≡ true) → Makes d k (write_of e cpus)
      made cpus some within has = record {
        test = test;
        e = e;
        cpus = cpus;
        found = found;
        is = refl;
        may = inr (gives_way d.targets k e (allowed_of d e) apart cpus within (both_of (blocks k d.targets.reserved d.targets.entries e) (in_ring k d.targets.reserved d.targets.entries e) yields).0 some);
        on_way = on_way d.targets k e (allowed_of d e) apart cpus within has;
      }

      squeezed_made : Makes d k (write_of e (set.union its_way d.targets.reserved))
      squeezed_made = made (set.union its_way d.targets.reserved)
          (bigger_some d.targets.reserved (set.union its_way d.targets.reserved) (λ q m. union_right its_way d.targets.reserved q m) valid.reserve)
          (λ q m. by q (in_union its_way d.targets.reserved q m)) (λ q m. union_left its_way d.targets.reserved q m) where
            by : (q : ℕ) → (set.contains its_way q ≡ true) ⊎ (set.contains d.targets.reserved q ≡ true)
                → (set.contains its_way q ≡ true) ⊎ ((set.contains d.targets.reserved q ≡ true) ⊎ (set.contains its_places q ≡ true))
            by q (inl w) = inl w
            by q (inr r) = inr (inl r)

      shared_made : Makes d k (write_of e (shared_way k d.targets.reserved d.targets.entries e))
      shared_made = by_test (is_empty (set.intersection its_way k.tree.online))
          (λ none. subst (λ b. Makes d k (write_of e (cond b (set.union its_way d.targets.reserved) its_way))) (sym none) squeezed_made)
          (λ some. subst (λ b. Makes d k (write_of e (cond b (set.union its_way d.targets.reserved) its_way))) (sym some)
          (made its_way (some_if_meets its_way k.tree.online some) (λ q m. inl m) (λ q m. m)))

      aside_made : steps_aside k d.targets.reserved d.targets.entries (allowed_of d) least e ≡ true → Makes d k (write_of e (set.union its_way extra))
      aside_made aside_it = made (set.union its_way extra) (aside_some aside_it) (λ q m. by q (in_union its_way extra q m)) (λ q m. union_left its_way extra q m) where
        by : (q : ℕ) → (set.contains its_way q ≡ true) ⊎ (set.contains extra q ≡ true)
            → (set.contains its_way q ≡ true) ⊎ ((set.contains d.targets.reserved q ≡ true) ⊎ (set.contains its_places q ≡ true))
        by q (inl w) = inl w
        by q (inr x) = inr (inr (extra_within q x))

  target_made : (test : Entry → Bool) (e : Entry) → find test d.targets.entries ≡ Some e → may_take k d.targets.reserved d.targets.entries e ≡ true → Makes d k (write_of e e.target)
  target_made test e found takes = record {
    test = test;
    e = e;
    cpus = e.target;
    found = found;
    is = refl;
    may = inl (takes, refl);
    on_way = record { keeps = λ q m t. t; within = λ q m. inr (inl m) };
  }

  pub makes : (w : Write) → Direct d least k (Some w) → Makes d k w
  makes w (Takes test e found takes) = target_made test e found takes
  makes w (Shares e none found) =
      shared_made e (shares k d.targets.reserved d.targets.entries) found
      (both_of (not e.pinned) (must_yield k d.targets.reserved d.targets.entries e) (find_passes (shares k d.targets.reserved d.targets.entries) d.targets.entries e found)).1
  makes w (StepsAside e none no_share found) =
      let passes = find_passes (steps_aside k d.targets.reserved d.targets.entries (allowed_of d) least) d.targets.entries e found in
      aside_made e (steps_aside k d.targets.reserved d.targets.entries (allowed_of d) least) found
      (both_of (must_yield k d.targets.reserved d.targets.entries e) (has_room k d.targets.reserved d.targets.entries e || has_place k d.targets.reserved d.targets.entries (allowed_of d) least e)
      (both_of e.pinned (must_yield k d.targets.reserved d.targets.entries e && (has_room k d.targets.reserved d.targets.entries e || has_place k d.targets.reserved d.targets.entries (allowed_of d) least e)) passes).1).0 passes
  makes w (IsSqueezed e none no_share no_aside found) =
      squeezed_made e (must_yield k d.targets.reserved d.targets.entries) found (find_passes (must_yield k d.targets.reserved d.targets.entries) d.targets.entries e found)

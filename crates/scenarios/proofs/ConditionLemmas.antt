-- What the tests of a hand-over's conditions find.
use Rattle.std.proofs.Common.{◌≡◌, ◌↔◌, ℕ, suc, Bool, true, false, ◌||◌, ◌-◌, ◌≤◌, List, [], ◌∷◌, length, take, drop, get_or, refl, sym, ap, ◌∙◌, inl, inr, arith}
use Rattle.std.proofs.lemmas.Bool.{ne_eqb, false≢true, and_from, and_parts, or_left, or_right, or_cases}
use Rattle.std.proofs.lemmas.List.{take_all}
use Rattle.std.specs.Borrow.{Bor}
use Rattle.faults.specs.Calls.{behind}
use Rattle.std.specs.Prelude.{cond, Option, Some, None, is_none, option_map, find, Result, Ok, Err, is_ok, if◌then◌else◌}
use Rattle.std.specs.Ordering.{nat_cmp}
use Rattle.std.specs.FinSet as set
use Rattle.std.specs.List.{AllByRecursion}
use Rattle.cpu_set.specs.Ids.{Ids, is_empty}
use Rattle.cpu_set.specs.PointwiseLaws.{contains-empty, contains-union, contains-intersection, is_subset-contains, contains-is_subset}
use Rattle.cpuset_tree.specs.declared.Group.{Group}
use Rattle.cpuset_tree.specs.TreeState.{TreeState, GroupEntry}
use Rattle.cpuset_tree.specs.Groups.{same_group, entry_among, is_root, is_root_entry, root_among, root_of}
use Rattle.cpuset_tree.specs.TreeWellFormed.{ParentIsAmong, IsFalling, IsWellFormed}
use Rattle.cpuset_tree.specs.GroupLemmas.{same_group-equal, entry_among-here, entry_among-there}
use Rattle.cpuset_tree.specs.TreeLemmas.{root_is_there}
use Rattle.apply_plan.specs.declared.Entry.{Entry}
use Rattle.apply_plan.specs.Holders.{Pairwise}
use Rattle.apply_plan.specs.Targets.{AreTargetsApart}
use Rattle.scenarios.specs.Free.{IsFree, with_pinned, AreFree}
use Rattle.apply_plan.specs.ListLemmas.{all_map, all_map2, all_of}
use Rattle.cpu_set.specs.SetLaws.{is_empty-empty}

-- what is in two sets is in a set exactly where their meeting is within that
pub meets_within : (s t within : Ids) → (set.is_subset (set.intersection s t) within ≡ true)
    ↔ ((cpu : ℕ) → set.contains s cpu ≡ true → set.contains t cpu ≡ true → set.contains within cpu ≡ true)
meets_within s t within = (
  λ sub cpu a b. is_subset-contains (set.intersection s t) within sub cpu (contains-intersection s t cpu ∙ and_from _ _ a b),
  λ all. contains-is_subset (set.intersection s t) within (λ cpu member.
      let two = and_parts (set.contains s cpu) (set.contains t cpu) (sym (contains-intersection s t cpu) ∙ member) in all cpu two.0 two.1),
)

-- a list by its first and the others
pub cut_first : {X : Type 0} (xs : List X) (x : X) → 1 ≤ length xs → x ≡ get_or xs 0 x → xs ≡ x ∷ take (length xs - 1) (drop 1 xs)
cut_first [] x some is = absurd (omega arith)
cut_first (y ∷ ys) x some is =
    let whole : length ys ≤ suc (length ys) - 1 = omega arith in
    ap (λ z. z ∷ ys) (sym is) ∙ ap (λ zs. x ∷ zs) (sym (take_all (suc (length ys) - 1) ys whole))

module _ (reserved : Ids) where
  abbrev IsWithin : Ids → Ids → Type 0
  IsWithin s t = (cpu : ℕ) → set.contains s cpu ≡ true → set.contains t cpu ≡ true → set.contains reserved cpu ≡ true

  joined : (s any t : Ids) → IsWithin s (set.union any t) ↔ (IsWithin s any × IsWithin t s)
  joined s any t = (
    λ h. (λ cpu a b. h cpu a (contains-union any t cpu ∙ or_left _ _ b), λ cpu b a. h cpu a (contains-union any t cpu ∙ or_right (set.contains any cpu) _ b)),
    λ h cpu a b. elim (or_cases (set.contains any cpu) (set.contains t cpu) (sym (contains-union any t cpu) ∙ b)) [
      | inl e ↦ h.0 cpu a e
      | inr e ↦ h.1 cpu e a
    ],
  )

  -- an entry is free with one more before it where it is free without it, and the two are apart
  one_more : (p q : Bool) (any pinned t s : Ids) → IsWithin s (cond q (set.union any t) (cond p (set.union pinned t) pinned))
      ↔ (IsWithin s (cond q any pinned) × ((p || q) ≡ true → IsWithin t s))
  one_more true true any pinned t s = (λ h. (((joined s any t).0 h).0, λ _. ((joined s any t).0 h).1), λ h. (joined s any t).1 (h.0, h.1 refl))
  one_more false true any pinned t s = (λ h. (((joined s any t).0 h).0, λ _. ((joined s any t).0 h).1), λ h. (joined s any t).1 (h.0, h.1 refl))
  one_more true false any pinned t s = (λ h. (((joined s pinned t).0 h).0, λ _. ((joined s pinned t).0 h).1), λ h. (joined s pinned t).1 (h.0, h.1 refl))
  one_more false false any pinned t s = (λ h. (h, λ e. absurd (false≢true e)), λ h. h.0)

  free_and_apart : (any pinned : Ids) (entries : List Entry) → AreFree reserved any pinned entries
      ↔ (AllByRecursion (IsFree reserved any pinned) entries × Pairwise (AreTargetsApart reserved) entries)
  free_and_apart any pinned [] = (λ _. (tt, tt), λ _. tt)
  free_and_apart any pinned (e ∷ later) =
      let more = λ (x : Entry). one_more e.pinned x.pinned any pinned e.target x.target in
      let rest = free_and_apart (set.union any e.target) (with_pinned pinned e) later in (
        λ h.
            let all = rest.0 h.1 in (
              (h.0, all_map (IsFree reserved (set.union any e.target) (with_pinned pinned e)) (IsFree reserved any pinned) (λ x f. ((more x).0 f).0) later all.0),
              (all_map (IsFree reserved (set.union any e.target) (with_pinned pinned e)) (AreTargetsApart reserved e) (λ x f. ((more x).0 f).1) later all.0, all.1),
            ),
        λ h. (h.0.0, rest.1 (all_map2 (IsFree reserved any pinned) (AreTargetsApart reserved e) (IsFree reserved (set.union any e.target) (with_pinned pinned e)) (λ x f g. (more x).1 (f, g)) later h.0.1 h.1.0, h.1.1)),
      )

  nothing_taken : (e : Entry) → IsFree reserved set.empty set.empty e
  nothing_taken e cpu member taken = absurd (false≢true (sym (none e.pinned) ∙ taken)) where
    none : (p : Bool) → set.contains (cond p (set.empty {R = nat_cmp}) set.empty) cpu ≡ false
    none true = contains-empty cpu
    none false = contains-empty cpu

  -- from the first on, they are free where they are apart
  pub free_is_apart : (entries : List Entry) → AreFree reserved set.empty set.empty entries ↔ Pairwise (AreTargetsApart reserved) entries
  free_is_apart entries =
      let all = free_and_apart set.empty set.empty entries in
      (λ h. (all.0 h).1, λ h. all.1 (all_of (IsFree reserved set.empty set.empty) nothing_taken entries, h))

-- a set is empty where the test says so, and else not
pub some_by_test : (s : Ids) (test : Bool) → (test ≡ true) ↔ (s ≡ set.empty) → test ≡ false → is_empty s ≡ false
some_by_test s test means fails = ne_eqb _ _ (λ e. false≢true (sym fails ∙ means.1 (set.empty_of_len s e)))

pub none_by_test : (s : Ids) (test : Bool) → (test ≡ true) ↔ (s ≡ set.empty) → test ≡ true → is_empty s ≡ true
none_by_test s test means passes = is_empty-empty s (means.0 passes)

-- a read by reference is of a group that is there where its value is
pub ok_behind : {A F : Type 0} (r : Result (Bor A) F) → is_ok r ≡ is_ok (behind r)
ok_behind (Ok reference) = refl
ok_behind (Err fault) = refl

-- a read that is answered is of a group that is there
pub read_is_there : {A F : Type 0} (there : Bool) (value : A) (fault : F) → is_ok {T = A} {E = F} (if there then Ok value else Err fault) ≡ there
read_is_there true value fault = refl
read_is_there false value fault = refl

-- the group of an entry that has no parent is the root
module _ (e : GroupEntry) (older : List GroupEntry) (g : Group) where
  here : same_group e.group g ≡ true → is_root_entry (entry_among (e ∷ older) g) ≡ true → root_among (e ∷ older) ≡ Some g
  here same is =
      ap (λ b. option_map (λ x. x.group) (cond b (Some e) (find (λ x. is_none x.parent) older))) (ap is_root_entry (sym (entry_among-here e older g same)) ∙ is)
      ∙ ap Some (same_group-equal e.group g same)

  there : (parent : Option Group) → e.parent ≡ parent → ParentIsAmong parent older → (is_root_entry (entry_among older g) ≡ true → root_among older ≡ Some g)
      → is_root_entry (entry_among older g) ≡ true → root_among (e ∷ older) ≡ Some g
  there None is last later root = absurd (false≢true (ap (λ x. is_root_entry (entry_among x g)) (sym last) ∙ root))
  there (Some p) is among later root =
      ap (λ o. option_map (λ x. x.group) (cond (is_none o) (Some e) (find (λ x. is_none x.parent) older))) is ∙ later root

root_alone : (next : ℕ) (groups : List GroupEntry) → IsFalling next groups → (g : Group) → is_root_entry (entry_among groups g) ≡ true → root_among groups ≡ Some g
root_alone next [] falling g is = absurd (false≢true is)
root_alone next (e ∷ older) falling g is =
    by (same_group e.group g) refl (root_alone e.group.serial older falling.2 g) where
      by : (b : Bool) → same_group e.group g ≡ b → (is_root_entry (entry_among older g) ≡ true → root_among older ≡ Some g) → root_among (e ∷ older) ≡ Some g
      by true same later = here e older g same is
      by false other later = there e older g e.parent refl falling.1 later (ap is_root_entry (sym (entry_among-there e older g other)) ∙ is)

-- a group that is not the root is not the root's
pub not_root : (s : TreeState) (root g : Group) → IsWellFormed s → root_of s ≡ Some root → (g ≡ root → ⊥) → is_root s g ≡ false
not_root s root g w is ne = by (is_root s g) refl where
  same : (a b : Group) → Some a ≡ Some b → a ≡ b
  same a b e = cc

  by : (b : Bool) → is_root s g ≡ b → is_root s g ≡ false
  by true e = absurd (ne (same g root (sym (root_alone s.next_serial s.groups w.falling g e) ∙ is)))
  by false e = e

-- and the root has no parent
pub is_the_root : (s : TreeState) (root g : Group) → IsWellFormed s → root_of s ≡ Some root → same_group g root ≡ true → is_root s g ≡ true
is_the_root s root g w is same =
    let top = root_is_there s root w is in
    ap (is_root s) (same_group-equal g root same) ∙ ap is_root_entry top.there ∙ ap is_none top.above

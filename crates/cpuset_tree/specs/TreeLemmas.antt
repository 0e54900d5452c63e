-- The laws of trees, proved.
use Rattle.std.proofs.Common.{◌≡◌, ℕ, ◌<◌, ◌≤◌, Bool, true, false, not, ◌&&◌, ◌||◌, List, [], ◌∷◌, refl, sym, ap, ◌∙◌, subst, arith, map, filter}
use Rattle.std.proofs.lemmas.Bool.{or_parts, and_parts, and_from, cond-true, cond-false, both_ways}
use Rattle.std.proofs.lemmas.Option.{same_Some, none-some}
use Rattle.std.proofs.lemmas.Slice.Eq.{bytes_eq-Decides}
use Rattle.std.specs.Prelude.{Option, Some, None, is_some, is_none, option_map, find, nat_eq}
use Rattle.std.specs.List.{list_any}
use Rattle.std.specs.Cmp.Lexicographic.{pointwise}
use Rattle.std.specs.FinSet as set
use Rattle.cpu_set.specs.Ids.{Ids}
use Rattle.cpu_set.specs.PointwiseLaws.{same_members, contains-intersection, is_subset-contains}
use Rattle.cpuset_tree.specs.declared.groups.Group.{Group}
use Rattle.cpuset_tree.specs.TreeState.{GroupEntry, TreeState}
use Rattle.cpuset_tree.specs.Groups.{cpus_in, mems_in, same_group, entry_among, entry_of, has_group, has_children, is_parent, is_root_entry, has_child_among, child_among, root_among}
use Rattle.cpuset_tree.specs.Effective.{granted, standing, effective}
use Rattle.cpuset_tree.specs.TreeChanges.{requesting_cpus, requesting_mems, with_group, without_group, with_cpus, with_mems, new_entry}
use Rattle.cpuset_tree.specs.TreeWellFormed.{ParentIsAmong, IsFalling, IsWellFormed}
use Rattle.cpuset_tree.specs.TreeLaws.{SameIsEqual, EntryIsOwn, IsRootEntry, RootIsThere, ParentIsThere, NoParentNoChildren, GrantsAll, GrantsWithin, IsTwoBelowRoot, TwoBelowRoot, SamePlace, StandsAs, StandAlike, WritesLeavePlaces, SerialIsGiven, KeepsSerials, SerialsGivenOnce, WritesRequest, CpusWritten, MemsWritten, GroupAdded, AddedLeaves, RemovedLeaves, IsChild, FoundIsChild, ChangesStayWellFormed, FirstIsWellFormed, WellFormedRunsUp}
use Rattle.cpuset_tree.specs.GroupLemmas.{same_group-equal, same_group_itself, same_group_sym, same_group-serial, other_serial, entry_among-here, entry_among-there, entry_among-without, entry_among-removed}
use Rattle.cpuset_tree.specs.GrantedLemmas.{granted_part, granted-empty}
use Rattle.cpuset_tree.specs.WellFormedLemmas.{serial_below, effective-up, RunsUpThePath-well_formed}

-- a change of each entry that leaves the groups
module _ (r : GroupEntry → GroupEntry) where
  -- a look-up whose test it leaves
  find-map : (test : GroupEntry → Bool) → ((e : GroupEntry) → test (r e) ≡ test e) → (groups : List GroupEntry) → find test (map r groups) ≡ option_map r (find test groups)
  find-map test stays [] = refl
  find-map test stays (e ∷ older) =
      elim (test e) as (λ t. test e ≡ t → find test (r e ∷ map r older) ≡ option_map r (find test (e ∷ older))) [
        | true ↦ λ h. cond-true (test (r e)) (Some (r e)) (find test (map r older)) (stays e ∙ h) ∙ sym (ap (option_map r) (cond-true (test e) (Some e) (find test older) h))
        | false ↦ λ h.
            cond-false (test (r e)) (Some (r e)) (find test (map r older)) (stays e ∙ h) ∙ find-map test stays older
            ∙ sym (ap (option_map r) (cond-false (test e) (Some e) (find test older) h))
      ] refl

  any-map : (test : GroupEntry → Bool) → ((e : GroupEntry) → test (r e) ≡ test e) → (groups : List GroupEntry) → list_any test (map r groups) ≡ list_any test groups
  any-map test stays [] = refl
  any-map test stays (e ∷ older) = ap (λ b. b || list_any test (map r older)) (stays e) ∙ ap (λ b. test e || b) (any-map test stays older)

  some-map : (o : Option GroupEntry) → is_some (option_map r o) ≡ is_some o
  some-map None = refl
  some-map (Some e) = refl

  module _ (group : (e : GroupEntry) → (r e).group ≡ e.group) where
    pub entry_among-map : (groups : List GroupEntry) (p : Group) → entry_among (map r groups) p ≡ option_map r (entry_among groups p)
    entry_among-map groups p = find-map (λ e. same_group e.group p) (λ e. ap (λ (g : Group). same_group g p) (group e)) groups

    group-map : (o : Option GroupEntry) → option_map (λ e. e.group) (option_map r o) ≡ option_map (λ e. e.group) o
    group-map None = refl
    group-map (Some e) = ap Some (group e)

    module _ (parent : (e : GroupEntry) → (r e).parent ≡ e.parent) where
      parent-map : (o : Option Group) (older : List GroupEntry) → ParentIsAmong o older → ParentIsAmong o (map r older)
      parent-map None older h = ap (map r) h
      parent-map (Some p) older h = ap is_some (entry_among-map older p) ∙ some-map (entry_among older p) ∙ h

      pub IsFalling-map : (next : ℕ) (groups : List GroupEntry) → IsFalling next groups → IsFalling next (map r groups)
      IsFalling-map next [] _ = tt
      IsFalling-map next (e ∷ older) (below, up, rest) = (
        subst (λ (g : Group). g.serial < next) (sym (group e)) below,
        subst (λ (o : Option Group). ParentIsAmong o (map r older)) (sym (parent e)) (parent-map e.parent older up),
        subst (λ (g : Group). IsFalling g.serial (map r older)) (sym (group e)) (IsFalling-map e.group.serial older rest),
      )

      pub root_among-map : (groups : List GroupEntry) → root_among (map r groups) ≡ root_among groups
      root_among-map groups =
          ap (option_map (λ e. e.group)) (find-map (λ e. is_none e.parent) (λ e. ap is_none (parent e)) groups) ∙ group-map (find (λ e. is_none e.parent) groups)

      -- and the names: each group stands where it did
      module _ (name : (e : GroupEntry) → (r e).name ≡ e.name) where
        place-map : (e : GroupEntry) → SamePlace (r e) e
        place-map e = record { group = group e; parent = parent e; name = name e }

        child_among-map : (groups : List GroupEntry) (above : Group) (text : List ℕ) → child_among (map r groups) above text ≡ child_among groups above text
        child_among-map groups above text =
            ap (option_map (λ e. e.group)) (find-map (λ e. is_parent e.parent above && pointwise nat_eq e.name text)
            (λ e. ap (λ (o : Option Group). is_parent o above && pointwise nat_eq (r e).name text) (parent e) ∙ ap (λ (t : List ℕ). is_parent e.parent above && pointwise nat_eq t text) (name e)) groups)
            ∙ group-map (find (λ e. is_parent e.parent above && pointwise nat_eq e.name text) groups)

        rootness-map : (o : Option GroupEntry) → is_root_entry (option_map r o) ≡ is_root_entry o
        rootness-map None = refl
        rootness-map (Some e) = ap is_none (parent e)

        stands_before : (s : TreeState) (p : Group) (e : GroupEntry) (o : Option GroupEntry) → entry_of s p ≡ o → option_map r o ≡ Some e → StandsAs s p e
        stands_before s p e None at is = absurd (none-some e is)
        stands_before s p e (Some f) at is =
            record { entry = f; there = at; place = subst (λ (x : GroupEntry). SamePlace x f) (same_Some (r f) e is) (place-map f) }

        StandAlike-map : (s new : TreeState) → new.groups ≡ map r s.groups → new.next_serial ≡ s.next_serial → StandAlike s new
        StandAlike-map s new is next = record {
          before = λ p e at. stands_before s p e (entry_of s p) refl (sym (found p) ∙ at);
          after = λ p e at. record {
            entry = r e;
            there = found p ∙ ap (option_map r) at;
            place = record { group = sym (group e); parent = sym (parent e); name = sym (name e) };
          };
          there = λ p. ap is_some (found p) ∙ some-map (entry_of s p);
          rootness = λ p. ap is_root_entry (found p) ∙ rootness-map (entry_of s p);
          child = λ above text. ap (λ (l : List GroupEntry). child_among l above text) is ∙ child_among-map s.groups above text;
          children = λ p. ap (λ (l : List GroupEntry). has_child_among l p) is ∙ any-map (λ e. is_parent e.parent p) (λ e. ap (λ (o : Option Group). is_parent o p) (parent e)) s.groups;
          root = ap root_among is ∙ root_among-map s.groups;
          next_serial = next;
        }
          where
            found : (p : Group) → entry_of new p ≡ option_map r (entry_of s p)
            found p = ap (λ (l : List GroupEntry). entry_among l p) is ∙ entry_among-map s.groups p

pub requesting_cpus-group : (g : Group) (cpus : Ids) (e : GroupEntry) → (requesting_cpus g cpus e).group ≡ e.group
requesting_cpus-group g cpus e = elim (same_group e.group g) as (λ t. same_group e.group g ≡ t → (requesting_cpus g cpus e).group ≡ e.group) [ true ↦ λ h. rw h | false ↦ λ h. rw h ] refl

pub requesting_cpus-parent : (g : Group) (cpus : Ids) (e : GroupEntry) → (requesting_cpus g cpus e).parent ≡ e.parent
requesting_cpus-parent g cpus e = elim (same_group e.group g) as (λ t. same_group e.group g ≡ t → (requesting_cpus g cpus e).parent ≡ e.parent) [ true ↦ λ h. rw h | false ↦ λ h. rw h ] refl

pub requesting_mems-group : (g : Group) (mems : Ids) (e : GroupEntry) → (requesting_mems g mems e).group ≡ e.group
requesting_mems-group g mems e = elim (same_group e.group g) as (λ t. same_group e.group g ≡ t → (requesting_mems g mems e).group ≡ e.group) [ true ↦ λ h. rw h | false ↦ λ h. rw h ] refl

pub requesting_mems-parent : (g : Group) (mems : Ids) (e : GroupEntry) → (requesting_mems g mems e).parent ≡ e.parent
requesting_mems-parent g mems e = elim (same_group e.group g) as (λ t. same_group e.group g ≡ t → (requesting_mems g mems e).parent ≡ e.parent) [ true ↦ λ h. rw h | false ↦ λ h. rw h ] refl

requesting_cpus-name : (g : Group) (cpus : Ids) (e : GroupEntry) → (requesting_cpus g cpus e).name ≡ e.name
requesting_cpus-name g cpus e = elim (same_group e.group g) as (λ t. same_group e.group g ≡ t → (requesting_cpus g cpus e).name ≡ e.name) [ true ↦ λ h. rw h | false ↦ λ h. rw h ] refl

requesting_mems-name : (g : Group) (mems : Ids) (e : GroupEntry) → (requesting_mems g mems e).name ≡ e.name
requesting_mems-name g mems e = elim (same_group e.group g) as (λ t. same_group e.group g ≡ t → (requesting_mems g mems e).name ≡ e.name) [ true ↦ λ h. rw h | false ↦ λ h. rw h ] refl

pub writes_leave_places : WritesLeavePlaces
writes_leave_places = (
  (λ s g cpus. StandAlike-map (requesting_cpus g cpus) (requesting_cpus-group g cpus) (requesting_cpus-parent g cpus) (requesting_cpus-name g cpus) s (with_cpus s g cpus) refl refl),
  (λ s g mems. StandAlike-map (requesting_mems g mems) (requesting_mems-group g mems) (requesting_mems-parent g mems) (requesting_mems-name g mems) s (with_mems s g mems) refl refl),
)

pub entry_of-with_cpus : CpusWritten
entry_of-with_cpus s g cpus p = entry_among-map (requesting_cpus g cpus) (requesting_cpus-group g cpus) s.groups p

pub entry_of-with_mems : MemsWritten
entry_of-with_mems s g mems p = entry_among-map (requesting_mems g mems) (requesting_mems-group g mems) s.groups p

-- a group that is not there is none that is
pub differs_from : (s : TreeState) (g p : Group) → has_group s g ≡ false → has_group s p ≡ true → same_group g p ≡ false
differs_from s g p fresh there =
    elim (same_group g p) as (λ t. same_group g p ≡ t → t ≡ false) [
      | true ↦ λ h. absurd (both_ways (has_group s g) fresh (ap (has_group s) (same_group-equal g p h) ∙ there))
      | false ↦ λ _. refl
    ] refl

pub entry_of-with_group : (s : TreeState) (g parent : Group) (name : List ℕ) → entry_of (with_group s g parent name) g ≡ Some (new_entry g (Some parent) name)
entry_of-with_group s g parent name = entry_among-here (new_entry g (Some parent) name) s.groups g (same_group_itself g)

pub entry_of-with_group_other : (s : TreeState) (g parent : Group) (name : List ℕ) (p : Group) → same_group g p ≡ false → entry_of (with_group s g parent name) p ≡ entry_of s p
entry_of-with_group_other s g parent name p other = entry_among-there (new_entry g (Some parent) name) s.groups p other

text_itself : (name : List ℕ) → pointwise nat_eq name name ≡ true
text_itself name = (bytes_eq-Decides name name).1 refl

-- what is read of the groups is the same with a new group, of which nothing is read
read_added : (read : Option GroupEntry → Ids) → read None ≡ set.empty → (s : TreeState) (g parent : Group) (name : List ℕ)
    → read (Some (new_entry g (Some parent) name)) ≡ set.empty → has_group s g ≡ false → (p : Group) → read (entry_of (with_group s g parent name) p) ≡ read (entry_of s p)
read_added read none s g parent name nothing fresh p =
    elim (same_group g p) as (λ t. same_group g p ≡ t → read (entry_of (with_group s g parent name) p) ≡ read (entry_of s p)) [
      | true ↦ λ is.
          ap read (entry_among-here (new_entry g (Some parent) name) s.groups p is) ∙ nothing ∙ sym none
          ∙ sym (ap read (none_there (entry_of s p) (ap (has_group s) (sym (same_group-equal g p is)) ∙ fresh)))
      | false ↦ λ is. ap read (entry_of-with_group_other s g parent name p is)
    ] refl
  where
    none_there : (o : Option GroupEntry) → is_some o ≡ false → o ≡ None
    none_there None h = refl
    none_there (Some e) h = absurd (both_ways true h refl)

pub added_leaves : AddedLeaves
added_leaves s new parent name g adds = subst (λ (n : TreeState). GroupAdded s n parent name g) (sym adds.added) (record {
  serial = adds.serial;
  fresh = adds.fresh;
  there = entry_of-with_group s g parent name;
  others = entry_of-with_group_other s g parent name;
  differs = λ p there. differs_from s g p adds.fresh there;
  child = ap (option_map (λ e. e.group)) (cond-true (is_parent (Some parent) parent && pointwise nat_eq name name) (Some (new_entry g (Some parent) name))
      (find (λ e. is_parent e.parent parent && pointwise nat_eq e.name name) s.groups) (and_from (is_parent (Some parent) parent) (pointwise nat_eq name name) (same_group_itself parent) (text_itself name)));
  cpus = read_added cpus_in refl s g parent name refl adds.fresh;
  mems = read_added mems_in refl s g parent name refl adds.fresh;
})

pub removed_leaves : RemovedLeaves
removed_leaves s g = record { gone = entry_among-removed g s.groups; others = λ p other. entry_among-without g s.groups p other }

-- the first entry that passes is that of its group
found_entry : (test : GroupEntry → Bool) (next : ℕ) (groups : List GroupEntry) → IsFalling next groups → (e : GroupEntry) → find test groups ≡ Some e
    → (entry_among groups e.group ≡ Some e) × (test e ≡ true) × (e.group.serial < next)
found_entry test next [] _ e at = absurd (none-some e at)
found_entry test next (h ∷ older) (below, up, rest) e at =
    elim (test h) as (λ t. test h ≡ t → (entry_among (h ∷ older) e.group ≡ Some e) × (test e ≡ true) × (e.group.serial < next)) [
      | true ↦ λ is.
          let one : h ≡ e = same_Some h e (sym (cond-true (test h) (Some h) (find test older) is) ∙ at) in (
            entry_among-here h older e.group (ap (λ (x : GroupEntry). same_group h.group x.group) (sym one) ∙ same_group_itself h.group) ∙ ap Some one,
            ap test (sym one) ∙ is,
            subst (λ (x : GroupEntry). x.group.serial < next) one below,
          )
      | false ↦ λ is.
          let deeper : (entry_among older e.group ≡ Some e) × (test e ≡ true) × (e.group.serial < h.group.serial) =
          found_entry test h.group.serial older rest e (sym (cond-false (test h) (Some h) (find test older) is) ∙ at) in
          let lower : e.group.serial < h.group.serial = deeper.2 in (
            entry_among-there h older e.group (other_serial h.group e.group (λ same. absurd (omega arith))) ∙ deeper.0,
            deeper.1,
            omega arith,
          )
    ] refl

pub is_parent-some : (o : Option Group) (g : Group) → is_parent o g ≡ true → o ≡ Some g
is_parent-some None g h = absurd (both_ways false refl h)
is_parent-some (Some p) g h = ap Some (same_group-equal p g h)

pub found_is_child : FoundIsChild
found_is_child s parent name g well at = from (find (λ e. is_parent e.parent parent && pointwise nat_eq e.name name) s.groups) refl
  where
    from : (o : Option GroupEntry) → find (λ e. is_parent e.parent parent && pointwise nat_eq e.name name) s.groups ≡ o → IsChild s parent name g
    from None is = absurd (none-some g (sym (ap (option_map (λ e. e.group)) is) ∙ at))
    from (Some e) is =
        let group : e.group ≡ g = same_Some e.group g (sym (ap (option_map (λ e. e.group)) is) ∙ at) in
        let found : (entry_of s e.group ≡ Some e) × ((is_parent e.parent parent && pointwise nat_eq e.name name) ≡ true) × (e.group.serial < s.next_serial) =
        found_entry (λ e. is_parent e.parent parent && pointwise nat_eq e.name name) s.next_serial s.groups well.falling e is in
        let parts : (is_parent e.parent parent ≡ true) × (pointwise nat_eq e.name name ≡ true) = and_parts (is_parent e.parent parent) (pointwise nat_eq e.name name) found.1 in
        record {
          entry = e;
          there = ap (entry_of s) (sym group) ∙ found.0;
          below = is_parent-some e.parent parent parts.0;
          named = (bytes_eq-Decides e.name name).0 parts.1;
        }

-- the groups without one that has no children
IsFalling-below : (next more : ℕ) (groups : List GroupEntry) → next ≤ more → IsFalling next groups → IsFalling more groups
IsFalling-below next more [] le _ = tt
IsFalling-below next more (e ∷ older) le (below, up, rest) = (omega arith, up, rest)

parent-without : (g : Group) (o : Option Group) (older : List GroupEntry) → is_parent o g ≡ false → ParentIsAmong o older → ParentIsAmong o (filter (λ e. not (same_group e.group g)) older)
parent-without g None older none h = ap (filter (λ e. not (same_group e.group g))) h
parent-without g (Some p) older none h = ap is_some (entry_among-without g older p (same_group_sym g p ∙ none)) ∙ h

pub IsFalling-without : (g : Group) (next : ℕ) (groups : List GroupEntry) → has_child_among groups g ≡ false → IsFalling next groups
    → IsFalling next (filter (λ e. not (same_group e.group g)) groups)
IsFalling-without g next [] none _ = tt
IsFalling-without g next (e ∷ older) none (below, up, rest) =
    let parts : (is_parent e.parent g ≡ false) × (has_child_among older g ≡ false) = or_parts (is_parent e.parent g) (has_child_among older g) none in
    let deeper : IsFalling e.group.serial (filter (λ e. not (same_group e.group g)) older) = IsFalling-without g e.group.serial older parts.1 rest in
    elim (same_group e.group g) as (λ t. same_group e.group g ≡ t → IsFalling next (filter (λ e. not (same_group e.group g)) (e ∷ older))) [
      | true ↦ λ is.
          subst (λ (l : List GroupEntry). IsFalling next l)
          (sym (cond-false (not (same_group e.group g)) (e ∷ filter (λ e. not (same_group e.group g)) older) (filter (λ e. not (same_group e.group g)) older) (ap not is)))
          (IsFalling-below e.group.serial next (filter (λ e. not (same_group e.group g)) older) (omega arith) deeper)
      | false ↦ λ is.
          subst (λ (l : List GroupEntry). IsFalling next l)
          (sym (cond-true (not (same_group e.group g)) (e ∷ filter (λ e. not (same_group e.group g)) older) (filter (λ e. not (same_group e.group g)) older) (ap not is)))
          (below, parent-without g e.parent older parts.0 up, deeper)
    ] refl

pub root_among-without : (g : Group) (next : ℕ) (groups : List GroupEntry) → IsFalling next groups → is_root_entry (entry_among groups g) ≡ false
    → root_among (filter (λ e. not (same_group e.group g)) groups) ≡ root_among groups
root_among-without g next [] _ child = refl
root_among-without g next (e ∷ older) (below, up, rest) child =
    elim (same_group e.group g) as (λ t. same_group e.group g ≡ t → root_among (filter (λ e. not (same_group e.group g)) (e ∷ older)) ≡ root_among (e ∷ older)) [
      | true ↦ λ is.
          ap root_among (cond-false (not (same_group e.group g)) (e ∷ filter (λ e. not (same_group e.group g)) older) (filter (λ e. not (same_group e.group g)) older) (ap not is))
          ∙ root_among-without g e.group.serial older rest (gone is)
          ∙ sym (ap (option_map (λ x. x.group)) (cond-false (is_none e.parent) (Some e) (find (λ x. is_none x.parent) older) (ap is_root_entry (sym (entry_among-here e older g is)) ∙ child)))
      | false ↦ λ is.
          let stays : root_among (filter (λ e. not (same_group e.group g)) older) ≡ root_among older =
          root_among-without g e.group.serial older rest (ap is_root_entry (sym (entry_among-there e older g is)) ∙ child) in
          ap root_among (cond-true (not (same_group e.group g)) (e ∷ filter (λ e. not (same_group e.group g)) older) (filter (λ e. not (same_group e.group g)) older) (ap not is))
          ∙ elim (is_none e.parent) as (λ t. is_none e.parent ≡ t → root_among (e ∷ filter (λ e. not (same_group e.group g)) older) ≡ root_among (e ∷ older)) [
            | true ↦ λ h. rw h
            | false ↦ λ h. rw h stays
          ] refl
    ] refl
  where
    gone : same_group e.group g ≡ true → is_root_entry (entry_among older g) ≡ false
    gone is = ap is_root_entry (none_of (entry_among older g) refl)
      where
        none_of : (o : Option GroupEntry) → entry_among older g ≡ o → o ≡ None
        none_of None at = refl
        none_of (Some x) at =
            let lower : g.serial < e.group.serial = serial_below e.group.serial older rest g (ap is_some at) in
            let same : e.group.serial ≡ g.serial = same_group-serial e.group g is in
            absurd (omega arith)

pub stays_well_formed : ChangesStayWellFormed
stays_well_formed s well = record {
  added = λ new parent name g there adds. subst (λ (n : TreeState). IsWellFormed n) (sym adds.added) (record {
    falling = (
      let serial : g.serial ≡ s.next_serial = adds.serial in omega arith,
      there,
      subst (λ (n : ℕ). IsFalling n s.groups) (sym adds.serial) well.falling,
    );
    rooted = well.rooted;
  });
  removed = λ g child childless. record {
    falling = IsFalling-without g s.next_serial s.groups childless well.falling;
    rooted = ap is_some (root_among-without g s.next_serial s.groups well.falling child) ∙ well.rooted;
  };
  cpus = λ g cpus. record {
    falling = IsFalling-map (requesting_cpus g cpus) (requesting_cpus-group g cpus) (requesting_cpus-parent g cpus) s.next_serial s.groups well.falling;
    rooted = ap is_some (root_among-map (requesting_cpus g cpus) (requesting_cpus-group g cpus) (requesting_cpus-parent g cpus) s.groups) ∙ well.rooted;
  };
  mems = λ g mems. record {
    falling = IsFalling-map (requesting_mems g mems) (requesting_mems-group g mems) (requesting_mems-parent g mems) s.next_serial s.groups well.falling;
    rooted = ap is_some (root_among-map (requesting_mems g mems) (requesting_mems-group g mems) (requesting_mems-parent g mems) s.groups) ∙ well.rooted;
  };
  online = λ online. record { falling = well.falling; rooted = well.rooted };
}

pub first_is_well_formed : FirstIsWellFormed
first_is_well_formed online nodes first_serial s first = subst (λ (n : TreeState). IsWellFormed n) (sym first.is) (record {
  falling = (omega arith, refl, tt);
  rooted = refl;
})

pub well_formed_runs_up : WellFormedRunsUp
well_formed_runs_up s well = RunsUpThePath-well_formed s well.falling

-- an entry that is found is that of the group
pub entry_among-same : (groups : List GroupEntry) (g : Group) (e : GroupEntry) → entry_among groups g ≡ Some e → same_group e.group g ≡ true
entry_among-same [] g e at = absurd (none-some e at)
entry_among-same (h ∷ older) g e at =
    elim (same_group h.group g) as (λ t. same_group h.group g ≡ t → same_group e.group g ≡ true) [
      | true ↦ λ is. ap (λ (x : GroupEntry). same_group x.group g) (sym (same_Some h e (sym (entry_among-here h older g is) ∙ at))) ∙ is
      | false ↦ λ is. entry_among-same older g e (sym (entry_among-there h older g is) ∙ at)
    ] refl

requesting_cpus-mems : (g : Group) (cpus : Ids) (e : GroupEntry) → (requesting_cpus g cpus e).mems ≡ e.mems
requesting_cpus-mems g cpus e = elim (same_group e.group g) as (λ t. same_group e.group g ≡ t → (requesting_cpus g cpus e).mems ≡ e.mems) [ true ↦ λ h. rw h | false ↦ λ h. rw h ] refl

requesting_mems-cpus : (g : Group) (mems : Ids) (e : GroupEntry) → (requesting_mems g mems e).cpus ≡ e.cpus
requesting_mems-cpus g mems e = elim (same_group e.group g) as (λ t. same_group e.group g ≡ t → (requesting_mems g mems e).cpus ≡ e.cpus) [ true ↦ λ h. rw h | false ↦ λ h. rw h ] refl

-- what is read of an entry that a write maps
read_own : {A : Type 0} (read : Option GroupEntry → A) (r : GroupEntry → GroupEntry) (value : A) (s : TreeState) (g : Group)
    → ((e : GroupEntry) → same_group e.group g ≡ true → read (Some (r e)) ≡ value) → has_group s g ≡ true → read (option_map r (entry_of s g)) ≡ value
read_own read r value s g own there = from (entry_of s g) refl
  where
    from : (o : Option GroupEntry) → entry_of s g ≡ o → read (option_map r (entry_of s g)) ≡ value
    from None at = absurd (both_ways (has_group s g) (ap is_some at) there)
    from (Some e) at = ap (λ (o : Option GroupEntry). read (option_map r o)) at ∙ own e (entry_among-same s.groups g e at)

read_other : {A : Type 0} (read : Option GroupEntry → A) (r : GroupEntry → GroupEntry) (s : TreeState) (p : Group)
    → ((e : GroupEntry) → same_group e.group p ≡ true → read (Some (r e)) ≡ read (Some e)) → read (option_map r (entry_of s p)) ≡ read (entry_of s p)
read_other read r s p stays = from (entry_of s p) refl
  where
    from : (o : Option GroupEntry) → entry_of s p ≡ o → read (option_map r (entry_of s p)) ≡ read (entry_of s p)
    from None at = ap (λ (o : Option GroupEntry). read (option_map r o)) at ∙ sym (ap read at)
    from (Some e) at = ap (λ (o : Option GroupEntry). read (option_map r o)) at ∙ stays e (entry_among-same s.groups p e at) ∙ sym (ap read at)

-- the entry of another group is not this group's
not_this : (g p : Group) (e : GroupEntry) → same_group g p ≡ false → same_group e.group p ≡ true → same_group e.group g ≡ false
not_this g p e other is = ap (λ (x : Group). same_group x g) (same_group-equal e.group p is) ∙ same_group_sym p g ∙ other

pub writes_request : WritesRequest
writes_request = (
  (λ s g cpus. record {
    own = λ there. ap cpus_in (entry_of-with_cpus s g cpus g)
        ∙ read_own cpus_in (requesting_cpus g cpus) cpus s g (λ e is. ap (λ (x : GroupEntry). x.cpus) (cond-true (same_group e.group g) (record e { cpus = cpus }) e is)) there;
    others = λ p other. ap cpus_in (entry_of-with_cpus s g cpus p)
        ∙ read_other cpus_in (requesting_cpus g cpus) s p (λ e is. ap (λ (x : GroupEntry). x.cpus) (cond-false (same_group e.group g) (record e { cpus = cpus }) e (not_this g p e other is)));
    apart = λ p other. entry_of-with_cpus s g cpus p
        ∙ read_other (λ o. o) (requesting_cpus g cpus) s p (λ e is. ap Some (cond-false (same_group e.group g) (record e { cpus = cpus }) e (not_this g p e other is)));
    mems = λ p. ap mems_in (entry_of-with_cpus s g cpus p) ∙ read_other mems_in (requesting_cpus g cpus) s p (λ e is. requesting_cpus-mems g cpus e);
    there = λ p. ap is_some (entry_of-with_cpus s g cpus p) ∙ read_other is_some (requesting_cpus g cpus) s p (λ e is. refl);
  }),
  (λ s g mems. record {
    own = λ there. ap mems_in (entry_of-with_mems s g mems g)
        ∙ read_own mems_in (requesting_mems g mems) mems s g (λ e is. ap (λ (x : GroupEntry). x.mems) (cond-true (same_group e.group g) (record e { mems = mems }) e is)) there;
    others = λ p other. ap mems_in (entry_of-with_mems s g mems p)
        ∙ read_other mems_in (requesting_mems g mems) s p (λ e is. ap (λ (x : GroupEntry). x.mems) (cond-false (same_group e.group g) (record e { mems = mems }) e (not_this g p e other is)));
    apart = λ p other. entry_of-with_mems s g mems p
        ∙ read_other (λ o. o) (requesting_mems g mems) s p (λ e is. ap Some (cond-false (same_group e.group g) (record e { mems = mems }) e (not_this g p e other is)));
    cpus = λ p. ap cpus_in (entry_of-with_mems s g mems p) ∙ read_other cpus_in (requesting_mems g mems) s p (λ e is. requesting_mems-cpus g mems e);
    there = λ p. ap is_some (entry_of-with_mems s g mems p) ∙ read_other is_some (requesting_mems g mems) s p (λ e is. refl);
  }),
)

pub same_is_equal : SameIsEqual
same_is_equal g h = ((λ e. same_group-equal g h e), (λ is. ap (same_group g) (sym is) ∙ same_group_itself g))

pub entry_is_own : EntryIsOwn
entry_is_own s g e at = same_group-equal e.group g (entry_among-same s.groups g e at)

pub root_is_there : RootIsThere
root_is_there s g well at = from (find (λ e. is_none e.parent) s.groups) refl
  where
    none_above : (o : Option Group) → is_none o ≡ true → o ≡ None
    none_above None h = refl
    none_above (Some p) h = absurd (both_ways false refl h)

    from : (o : Option GroupEntry) → find (λ e. is_none e.parent) s.groups ≡ o → IsRootEntry s g
    from None is = absurd (none-some g (sym (ap (option_map (λ e. e.group)) is) ∙ at))
    from (Some e) is =
        let group : e.group ≡ g = same_Some e.group g (sym (ap (option_map (λ e. e.group)) is) ∙ at) in
        let found : (entry_of s e.group ≡ Some e) × (is_none e.parent ≡ true) × (e.group.serial < s.next_serial) =
        found_entry (λ e. is_none e.parent) s.next_serial s.groups well.falling e is in
        record { entry = e; there = ap (entry_of s) (sym group) ∙ found.0; above = none_above e.parent found.1 }

-- a parent is among the groups
parent_among : (next : ℕ) (groups : List GroupEntry) → IsFalling next groups → (g p : Group) (e : GroupEntry) → entry_among groups g ≡ Some e → e.parent ≡ Some p
    → is_some (entry_among groups p) ≡ true
parent_among next [] _ g p e at of = absurd (none-some e at)
parent_among next (h ∷ older) (below, up, rest) g p e at of =
    elim (same_group h.group g) as (λ t. same_group h.group g ≡ t → is_some (entry_among (h ∷ older) p) ≡ true) [
      | true ↦ λ is.
          newer (subst (λ (o : Option Group). ParentIsAmong o older) (ap (λ (x : GroupEntry). x.parent) (same_Some h e (sym (entry_among-here h older g is) ∙ at)) ∙ of) up)
      | false ↦ λ is. newer (parent_among h.group.serial older rest g p e (sym (entry_among-there h older g is) ∙ at) of)
    ] refl
  where
    newer : is_some (entry_among older p) ≡ true → is_some (entry_among (h ∷ older) p) ≡ true
    newer there = elim (same_group h.group p) as (λ t. same_group h.group p ≡ t → is_some (entry_among (h ∷ older) p) ≡ true) [
      | true ↦ λ is. ap is_some (entry_among-here h older p is)
      | false ↦ λ is. ap is_some (entry_among-there h older p is) ∙ there
    ] refl

-- and it is older
parent_older : (next : ℕ) (groups : List GroupEntry) → IsFalling next groups → (g p : Group) (e : GroupEntry) → entry_among groups g ≡ Some e → e.parent ≡ Some p
    → p.serial < g.serial
parent_older next [] _ g p e at of = absurd (none-some e at)
parent_older next (h ∷ older) (below, up, rest) g p e at of =
    elim (same_group h.group g) as (λ t. same_group h.group g ≡ t → p.serial < g.serial) [
      | true ↦ λ is.
          let one : h ≡ e = same_Some h e (sym (entry_among-here h older g is) ∙ at) in
          let lower : p.serial < h.group.serial =
          serial_below h.group.serial older rest p (subst (λ (o : Option Group). ParentIsAmong o older) (ap (λ (x : GroupEntry). x.parent) one ∙ of) up) in
          let same : h.group.serial ≡ g.serial = same_group-serial h.group g is in
          omega arith
      | false ↦ λ is. parent_older h.group.serial older rest g p e (sym (entry_among-there h older g is) ∙ at) of
    ] refl

pub parent_is_there : ParentIsThere
parent_is_there s g p e well at of = (
  parent_among s.next_serial s.groups well.falling g p e at of,
  parent_older s.next_serial s.groups well.falling g p e at of,
)

-- a child among the groups
record FoundChild (groups : List GroupEntry) (g : Group) (next : ℕ) : Type 0 where
  child : Group
  entry : GroupEntry
  there : entry_among groups child ≡ Some entry
  below : entry.parent ≡ Some g
  lower : child.serial < next

found_child : (g : Group) (next : ℕ) (groups : List GroupEntry) → IsFalling next groups → has_child_among groups g ≡ true → FoundChild groups g next
found_child g next [] _ h = absurd (both_ways false refl h)
found_child g next (e ∷ older) (below, up, rest) h =
    elim (is_parent e.parent g) as (λ t. is_parent e.parent g ≡ t → FoundChild (e ∷ older) g next) [
      | true ↦ λ is. record {
        child = e.group;
        entry = e;
        there = entry_among-here e older e.group (same_group_itself e.group);
        below = is_parent-some e.parent g is;
        lower = below;
      }
      | false ↦ λ is.
          let deeper : FoundChild older g e.group.serial = found_child g e.group.serial older rest (ap (λ b. b || has_child_among older g) (sym is) ∙ h) in
          let lower : deeper.child.serial < e.group.serial = deeper.lower in
          record {
            child = deeper.child;
            entry = deeper.entry;
            there = entry_among-there e older deeper.child (other_serial e.group deeper.child (λ same. absurd (omega arith))) ∙ deeper.there;
            below = deeper.below;
            lower = omega arith;
          }
    ] refl

pub no_parent_no_children : NoParentNoChildren
no_parent_no_children s g well nobodys =
    elim (has_children s g) as (λ t. has_children s g ≡ t → t ≡ false) [
      | true ↦ λ h. let c : FoundChild s.groups g s.next_serial = found_child g s.next_serial s.groups well.falling h in absurd (nobodys c.child c.entry c.there c.below)
      | false ↦ λ _. refl
    ] refl

pub grants_all : GrantsAll
grants_all = granted-empty

pub grants_within : GrantsWithin
grants_within requested above some within = granted_part requested above (λ e. some (sym (sub requested above within) ∙ e)) ∙ sub requested above within
  where
    both_where_one : (a b : Bool) → (a ≡ true → b ≡ true) → (a && b) ≡ a
    both_where_one true b h = h refl
    both_where_one false b h = refl

    sub : (s t : Ids) → set.is_subset s t ≡ true → set.intersection s t ≡ s
    sub s t h = same_members (set.intersection s t) s (λ q. contains-intersection s t q ∙ both_where_one (set.contains s q) (set.contains t q) (is_subset-contains s t h q))

-- what is in effect two below the root, for CPUs and for nodes
two_below : (requested : GroupEntry → Ids) (top : Ids) (s : TreeState) (g : Group) (e above : GroupEntry) → IsWellFormed s → IsTwoBelowRoot s g e above
    → requested above ≡ set.empty → effective requested top s.groups g ≡ granted (requested e) top
two_below requested top s g e above well d nothing =
    up g e d.there ∙ ap (λ (o : Option Group). standing o (requested e) top (effective requested top s.groups)) d.below
    ∙ ap (granted (requested e)) (
    up d.parent above d.parent_there ∙ ap (λ (o : Option Group). standing o (requested above) top (effective requested top s.groups)) d.parent_below
    ∙ ap (λ (asked : Ids). granted asked (effective requested top s.groups d.root)) nothing
    ∙ granted-empty (effective requested top s.groups d.root)
    ∙ up d.root root.entry root.there ∙ ap (λ (o : Option Group). standing o (requested root.entry) top (effective requested top s.groups)) root.above)
  where
    up : (p : Group) (x : GroupEntry) → entry_of s p ≡ Some x → effective requested top s.groups p ≡ standing x.parent (requested x) top (effective requested top s.groups)
    up = effective-up requested top s.next_serial s.groups well.falling

    root : IsRootEntry s d.root
    root = root_is_there s d.root well d.top

pub two_below_root : TwoBelowRoot
two_below_root s g e above well d = record {
  cpus = two_below (λ x. x.cpus) s.online s g e above well d;
  mems = two_below (λ x. x.mems) s.nodes s g e above well d;
}

pub serial_is_given : SerialIsGiven
serial_is_given s g well there = serial_below s.next_serial s.groups well.falling g there

pub stands_itself : (s : TreeState) (g : Group) (e : GroupEntry) → entry_of s g ≡ Some e → StandsAs s g e
stands_itself s g e at = record { entry = e; there = at; place = record { group = refl; parent = refl; name = refl } }

pub serials_given_once : SerialsGivenOnce
serials_given_once s = record {
  added = λ new parent name g adds. subst (λ (n : TreeState). KeepsSerials s n) (sym adds.added) (record {
    rise = omega arith;
    same = λ p e lt at. stands_itself s p e
        (sym (entry_of-with_group_other s g parent name p (other_serial g p (λ is. let serial : g.serial ≡ s.next_serial = adds.serial in absurd (omega arith)))) ∙ at);
  });
  removed = λ g. record {
    rise = omega arith;
    same = λ p e lt at. stands_itself s p e (sym (entry_among-without g s.groups p (still g p e at)) ∙ at);
  };
  cpus = λ g cpus. record { rise = omega arith; same = λ p e lt. (writes_leave_places.0 s g cpus).before p e };
  mems = λ g mems. record { rise = omega arith; same = λ p e lt. (writes_leave_places.1 s g mems).before p e };
  online = λ online. record { rise = omega arith; same = λ p e lt. stands_itself s p e };
}
  where
    still : (g p : Group) (e : GroupEntry) → entry_of (without_group s g) p ≡ Some e → same_group g p ≡ false
    still g p e at = elim (same_group g p) as (λ t. same_group g p ≡ t → t ≡ false) [
      | true ↦ λ is. absurd (none-some e (sym (entry_among-removed g s.groups) ∙ ap (entry_of (without_group s g)) (same_group-equal g p is) ∙ at))
      | false ↦ λ _. refl
    ] refl

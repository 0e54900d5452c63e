-- That files stand for the tree after any calls, proved.
use Rattle.std.proofs.Common.{◌≡◌, ℕ, suc, true, false, refl, sym, ap, ◌∙◌, subst, inl, inr}
use Rattle.std.proofs.lemmas.List.{append_assoc}
use Rattle.std.specs.List.{list_any}
use Rattle.std.specs.Prelude.{◌⊎◌, Bool, List, [], ◌∷◌, ◌++◌, Option, Some, None, is_some, is_none, option_map, Result, Ok, Err, not, if◌then◌else◌}
use Rattle.faults.specs.declared.or_memory.OrMemory.{OrMemory}
use Rattle.faults.specs.declared.or_memory.OrMemory.TheVariants.{Memory, Fault}
use Rattle.std.proofs.lemmas.Bool.{both_ways, true≢false}
use Rattle.std.proofs.lemmas.Option.{same_Some, none-some}
use Rattle.cpu_set.specs.Ids.{Ids}
use Rattle.cpuset_tree.specs.declared.Group.{Group}
use Rattle.cpuset_tree.specs.declared.TreeFault.TheVariants as tree
use Rattle.cpuset_tree.specs.TreeState.{GroupEntry, TreeState}
use Rattle.cpuset_tree.specs.TreeChanges.{new_entry, without_group, with_cpus, with_mems}
use Rattle.cpuset_tree.specs.TreeAnswers.{AddsGroup}
use Rattle.cpuset_tree.specs.TreeLaws.{GroupAdded}
use Rattle.cpuset_tree.specs.TreeLemmas.{added_leaves}
use Rattle.cpuset_tree.specs.Effective.{granted}
use Rattle.cpuset_tree.specs.GroupLemmas.{same_group-equal}
use Rattle.cpuset_tree.specs.Groups.{same_group, entry_among, entry_of, cpus_in, mems_in, is_root_entry}
use Rattle.cpuset_tree.specs.Places.{place_in, place_of}
use Rattle.cpuset_tree.specs.TreeWellFormed as formed
use Rattle.kernel_model.specs.declared.KernelFault.{KernelFault}
use Rattle.kernel_model.specs.declared.KernelFault.TheVariants.{Failed}
use Rattle.kernel_model.specs.Faults.{of_tree}
use Rattle.kernel_model.specs.Trace.{WritingCall, MadeGroup, RemovedGroup, WroteCpus, WroteMems, Spawned, EndedGroup}
use Rattle.kernel_model.specs.KernelState.{KernelState}
use Rattle.kernel_model.specs.KernelLemmas.{each_case_keeps, writes_keep_tree, events_keep_groups, tells_each_write}
use Rattle.kernel_model.specs.RefusalLemmas.{calls_are_free}
use Rattle.kernel_model.specs.NameLemmas.{MakesGroup-names, RemovesGroup-names, WritesCpus-names, WritesMems-names, names_of_first, none_of_name}
use Rattle.kernel_model.specs.Names.{HaveOwnNames}
use Rattle.kernel_model.specs.Refusals.{make_refusal, write_refusal}
use Rattle.kernel_model.specs.Cases.{MakesGroup, RemovesGroup, WritesCpus, WritesMems, EndsGroup}
use Rattle.kernel_model.specs.WellFormed.{IsWellFormed}
use Rattle.cgroup_tree.specs.Asked.{Deed, Remark, Asked, Made, Removed, Unmade, Written, Compared, Told, NoRoom, NoName, IsLeft, path_of, remark_on, done, refusal, notice}
use Rattle.cgroup_tree.specs.Mirrored.{IsNamed, looked, looks_behind}
use Rattle.cgroup_tree.specs.Paths.{is_slash, folder, below, cpus_file, mems_file, kill_file, kill_line, controls_file, controls_line, partition_file, partition_line, list_line}
use Rattle.cgroup_tree.specs.Standing.{text_in, StandsFor, HavePlainNames, AreApart}
use Rattle.cgroup_tree.specs.StandingLemmas.{folder_same, writes_stand, places_written, places_written_mems}
use Rattle.cgroup_tree.specs.ChangeLemmas.{folders_stand, passed_on, unmade, gone, noted, refused_and_told, looked_behind, entry_left, there_left}
use Rattle.cgroup_tree.specs.ApartLemmas.{plain_names_apart, one_folder_there, entry_placed, some_of}
use Rattle.cgroup_tree.specs.Events.{Event, Wrote, Forked, Exited, WentOffline, CameOnline, Happens, IsAsked, IsAskedAt, IsNoticed, AreAsked, AreAskedAndLooked, AsksFor, IsNew, Past}
use Rattle.cgroup_tree.specs.Site.{Site}
use Rattle.cgroup_tree.specs.Stands.{PastsStand}
use Rattle.cgroup_tree.specs.PastsTold.{PastsAreTold, AreToldBehind, AreTold, RefusalsAreTold}

-- a group has a place exactly where nothing stands against a write of it
placed_at : (name : List ℕ) (parent : Option Group)
    → is_none (option_map of_tree (if is_none parent then Some tree.IsRoot else None)) ≡ is_some (option_map {U = Group × List ℕ} (λ p. (p, name)) parent)
placed_at name None = refl
placed_at name (Some p) = refl

placed_in : (o : Option GroupEntry)
    → is_none (option_map of_tree (if not (is_some o) then Some tree.NoGroup else if is_root_entry o then Some tree.IsRoot else None)) ≡ is_some (place_in o)
placed_in None = refl
placed_in (Some e) = placed_at e.name e.parent

pub placed_free : (k : KernelState) (g : Group) → write_refusal k g ≡ None → is_some (place_of k.tree g) ≡ true
placed_free k g free = sym (placed_in (entry_of k.tree g)) ∙ ap is_none free

abbrev tree_of : KernelState → TreeState
tree_of k = k.tree

-- a group with a place is not the root that stands alone
pub no_place : (root : GroupEntry) (g : Group) → root.parent ≡ None → place_in (entry_among (root ∷ []) g) ≡ None
no_place root g none =
    elim (same_group root.group g) as (λ b. place_in (if b then Some root else None) ≡ None) [
      | true ↦ ap (option_map {U = Group × List ℕ} (λ p. (p, root.name))) none
      | false ↦ refl
    ]

-- what is kept over calls
pub record Kept (root : List ℕ) (memory : Ids) (k : KernelState) (calls : List Asked) : Type 0 where
  pub stands : StandsFor root memory k.tree calls
  pub well : IsWellFormed k
  pub own : HaveOwnNames k.tree.groups
  pub plain : HavePlainNames k.tree

module _ (root : List ℕ) (memory : Ids) (old : KernelState) (before : List Asked) (was : Kept root memory old before) where
  -- the part of it that files and names have
  record Part (t : TreeState) (calls : List Asked) : Type 0 where
    stands : StandsFor root memory t calls
    plain : HavePlainNames t

  apart_old : AreApart old.tree
  apart_old = plain_names_apart old.tree was.well.tree was.own was.plain

  abbrev PartOf : TreeState → List Asked → Type 0
  PartOf t these = Part t (these ++ before)

  in_tree : (t u : TreeState) (these : List Asked) → t ≡ u → PartOf u these → PartOf t these
  in_tree t u these same part = subst (λ (x : TreeState). PartOf x these) (sym same) part

  of_calls : (t : TreeState) (these those : List Asked) → these ≡ those → PartOf t those → PartOf t these
  of_calls t these those are part = subst (λ (x : List Asked). PartOf t x) (sym are) part

  part_none : (t : TreeState) (these : List Asked) → t ≡ old.tree → these ≡ [] → PartOf t these
  part_none t these same none = in_tree t old.tree these same (of_calls old.tree these [] none (record { stands = was.stands; plain = was.plain }))

  part_refused : (t : TreeState) (deed : Deed) (these : List Asked) → t ≡ old.tree → these ≡ refusal deed → PartOf t these
  part_refused t deed these same are =
      in_tree t old.tree these same (of_calls old.tree these (refusal deed) are
      (record { stands = refused_and_told root memory old.tree deed before was.stands; plain = was.plain }))

  part_noticed : (t : TreeState) (name : List ℕ) (remark : Remark) (these : List Asked) → t ≡ old.tree → these ≡ notice name remark → PartOf t these
  part_noticed t name remark these same are =
      in_tree t old.tree these same (of_calls old.tree these (notice name remark) are
      (record { stands = noted root memory old.tree name remark before was.stands; plain = was.plain }))

  part_failed : (t : TreeState) (name : List ℕ) (deed : Deed) (these : List Asked) → t ≡ old.tree → (these ≡ refusal deed) ⊎ IsNoticed name these → PartOf t these
  part_failed t name deed these same (inl are) = part_refused t deed these same are
  part_failed t name deed these same (inr (inl are)) = part_noticed t name NoRoom these same are
  part_failed t name deed these same (inr (inr are)) = part_noticed t name NoName these same are

  -- a write of CPUs
  cpus_part : (partition : Bool) (g : Group) (cpus : Ids) (r : Result (Unit {0}) KernelFault) (new : KernelState) (these : List Asked) → WritesCpus old g cpus r new
      → (path line : List ℕ) → AreAskedAndLooked (Written (root ++ (folder old.tree g ++ cpus_file)) (list_line cpus)) (looks_behind partition root (Compared path line)) r these
      → PartOf new.tree these
  cpus_part partition g cpus (Ok value) new these h path line (same, intact, are) =
      let stands : StandsFor root memory (with_cpus old.tree g cpus) (done (Written (root ++ (folder old.tree g ++ cpus_file)) (list_line cpus)) ∷ before) =
      writes_stand.cpus root memory old.tree g cpus before apart_old (placed_free old g h.0) was.stands in
      let plain : HavePlainNames (with_cpus old.tree g cpus) = λ p q name is. was.plain p q name (sym (places_written old.tree g cpus p) ∙ is) in
      in_tree new.tree (with_cpus old.tree g cpus) these (ap tree_of h.1) (of_calls (with_cpus old.tree g cpus) these _ are (record {
        stands = looked_behind partition root memory (with_cpus old.tree g cpus) path line same intact (done (Written (root ++ (folder old.tree g ++ cpus_file)) (list_line cpus))) before stands;
        plain = plain;
      }))
  cpus_part partition g cpus (Err Failed) new these h path line are =
      part_refused new.tree (Written (root ++ (folder old.tree g ++ cpus_file)) (list_line cpus)) these (ap tree_of h) are
  cpus_part partition g cpus (Err fault) new these h path line are = part_none new.tree these (ap tree_of h.1) are

  -- of memory nodes
  mems_part : (g : Group) (mems : Ids) (r : Result (Unit {0}) KernelFault) (new : KernelState) (these : List Asked) → WritesMems old g mems r new
      → IsAsked (Written (root ++ (folder old.tree g ++ mems_file)) (list_line (granted mems memory))) r these → PartOf new.tree these
  mems_part g mems (Ok value) new these h are =
      in_tree new.tree (with_mems old.tree g mems) these (ap tree_of h.1) (of_calls (with_mems old.tree g mems) these _ are (record {
        stands = writes_stand.mems root memory old.tree g mems before apart_old (placed_free old g h.0) was.stands;
        plain = λ p q name is. was.plain p q name (sym (places_written_mems old.tree g mems p) ∙ is);
      }))
  mems_part g mems (Err Failed) new these h are =
      part_refused new.tree (Written (root ++ (folder old.tree g ++ mems_file)) (list_line (granted mems memory))) these (ap tree_of h) are
  mems_part g mems (Err fault) new these h are = part_none new.tree these (ap tree_of h.1) are

  -- an end of processes
  end_part : (g : Group) (r : Result (Unit {0}) KernelFault) (new : KernelState) (these : List Asked) → EndsGroup old g r new
      → IsAsked (Written (root ++ (folder old.tree g ++ kill_file)) kill_line) r these → PartOf new.tree these
  end_part g (Ok value) new these h are =
      in_tree new.tree old.tree these (ap tree_of h.1) (of_calls old.tree these _ are (record {
        stands = writes_stand.killed root memory old.tree g before was.stands;
        plain = was.plain;
      }))
  end_part g (Err Failed) new these h are = part_refused new.tree (Written (root ++ (folder old.tree g ++ kill_file)) kill_line) these (ap tree_of h) are
  end_part g (Err fault) new these h are = part_none new.tree these (ap tree_of h.1) are

  end_at : (place : Option (Group × List ℕ)) (g : Group) (r : Result (Unit {0}) KernelFault) (new : KernelState) (these : List Asked) → EndsGroup old g r new
      → IsAskedAt place root (Written (root ++ (folder old.tree g ++ kill_file)) kill_line) r these → PartOf new.tree these
  end_at None g (Ok value) new these h none = part_none new.tree these (ap tree_of h.1) none
  end_at None g (Err Failed) new these h are = part_noticed new.tree root IsLeft these (ap tree_of h) are
  end_at None g (Err fault) new these h none = part_none new.tree these (ap tree_of h.1) none
  end_at (Some place) g r new these h are = end_part g r new these h are

  -- a group that is removed
  remove_part : (g : Group) (r : Result (Unit {0}) KernelFault) (new : KernelState) (these : List Asked) → RemovesGroup old g r new
      → IsAsked (Removed (root ++ (folder old.tree g ++ []))) r these → PartOf new.tree these
  remove_part g (Ok value) new these h are =
      let left : TreeState = without_group old.tree g in
      let path : List ℕ = root ++ (folder old.tree g ++ []) in
      let well : formed.IsWellFormed left =
      subst (λ (t : TreeState). formed.IsWellFormed t) (ap tree_of h.1) ((each_case_keeps old new was.well).remove g (Ok value) h).well_formed.tree in
      in_tree new.tree left these (ap tree_of h.1) (of_calls left these _ are (record {
        stands = folders_stand.removed root memory old.tree g path before well was.stands;
        plain = λ p q name is. was.plain p q name
            (ap place_in (entry_left old.tree g well p (there_left old.tree g well p (ap is_some is))) ∙ is);
      }))
  remove_part g (Err Failed) new these h are = part_refused new.tree (Removed (root ++ (folder old.tree g ++ []))) these (ap tree_of h) are
  remove_part g (Err fault) new these h are = part_none new.tree these (ap tree_of h.1) are

  -- a group that is made
  module _ (parent : Group) (name : List ℕ) where
    abbrev controls : Deed
    controls = Written (root ++ (folder old.tree parent ++ controls_file)) controls_line

    abbrev folder_made : Deed
    folder_made = Made (root ++ (folder old.tree parent ++ below name))

    abbrev folder_unmade : Deed
    folder_unmade = Unmade (root ++ (folder old.tree parent ++ below name))

    -- another group has another folder
    none_has : make_refusal old parent name ≡ None → list_any is_slash name ≡ false → (h : Group) → is_some (place_of old.tree h) ≡ true
        → folder old.tree h ≡ folder old.tree parent ++ below name → ⊥
    none_has free plain h here same =
        let at = some_of (place_of old.tree h) here in
        let entry = entry_placed old.tree h at.0.0 at.0.1 at.1 in
        let parts = ((calls_are_free old).make parent name).0 free in
        let above = one_folder_there old.tree was.well.tree was.own was.plain h parent at.0.0 name at.0.1 plain at.1 parts.0 same in
        none_of_name old.tree parent name parts.1 h entry.entry entry.there (entry.above ∙ ap Some above.0) (entry.named ∙ above.1)

    named_plain : (new : TreeState) (g : Group) → GroupAdded old.tree new parent name g → list_any is_slash name ≡ false → HavePlainNames new
    named_plain new g added plain p q label is =
        elim (same_group g p) as (λ b. same_group g p ≡ b → list_any is_slash label ≡ false) [
          | true ↦ λ own.
              let here : place_of new p ≡ Some (parent, name) = ap (place_of new) (sym (same_group-equal g p own)) ∙ ap place_in added.there in
              subst (λ (text : List ℕ). list_any is_slash text ≡ false)
              (ap (λ (x : Group × List ℕ). x.1) (same_Some (parent, name) (q, label) (sym here ∙ is))) plain
          | false ↦ λ other. was.plain p q label (sym (ap place_in (added.others p other)) ∙ is)
        ] refl

    make_part : (r : Result Group (OrMemory KernelFault)) (new : KernelState) (these : List Asked) → MakesGroup old parent name r new
        → AreAsked name controls folder_made folder_unmade r these → IsNamed name r → PartOf new.tree these
    make_part (Ok g) new these h are named =
        let adds : AddsGroup old.tree parent name g new.tree = h.1.does in
        let plain = named_plain new.tree g (added_leaves old.tree new.tree parent name g adds) named.no_slash in
        let well : formed.IsWellFormed new.tree = ((each_case_keeps old new was.well).make parent name (Ok g) h).well_formed.tree in
        let own : HaveOwnNames new.tree.groups = MakesGroup-names old was.own parent name (Ok g) new h in
        of_calls new.tree these _ are (record {
          stands = folders_stand.made root memory old.tree new.tree parent g name before was.well.tree well (plain_names_apart new.tree well own plain) adds was.stands;
          plain = plain;
        })
    make_part (Err Memory) new these h are named =
        let stands : StandsFor root memory old.tree (done folder_made ∷ done controls ∷ before) =
        unmade root memory old.tree parent name (done controls ∷ before) (none_has h.0 named.no_slash) (passed_on root memory old.tree parent before was.stands) in
        in_tree new.tree old.tree these (ap tree_of h.1) (elim are [
          | inl is ↦ of_calls old.tree these _ is (record {
            stands = gone root memory old.tree (root ++ (folder old.tree parent ++ below name)) (done folder_made ∷ done controls ∷ before) stands;
            plain = was.plain;
          })
          | inr is ↦ of_calls old.tree these _ is (record {
            stands = refused_and_told root memory old.tree folder_unmade (done folder_made ∷ done controls ∷ before) stands;
            plain = was.plain;
          })
        ])
    make_part (Err (Fault Failed)) new these h (inl is) named =
        in_tree new.tree old.tree these (ap tree_of h) (of_calls old.tree these _ is (record {
          stands = refused_and_told root memory old.tree folder_made (done controls ∷ before) (passed_on root memory old.tree parent before was.stands);
          plain = was.plain;
        }))
    make_part (Err (Fault Failed)) new these h (inr rest) named = part_failed new.tree name controls these (ap tree_of h) rest
    make_part (Err (Fault fault)) new these h are named = part_none new.tree these (ap tree_of h.1) are

  -- where the groups stay
  groups_part : (t : TreeState) (these : List Asked) → t.groups ≡ old.tree.groups → these ≡ [] → PartOf t these
  groups_part t these same none =
      let entry : (g : Group) → entry_of t g ≡ entry_of old.tree g = λ g. ap (λ (gs : List GroupEntry). entry_among gs g) same in
      let place : (g : Group) → place_of t g ≡ place_of old.tree g = λ g. ap place_in (entry g) in
      let there : (g : Group) → folder t g ≡ folder old.tree g = λ g. folder_same old.tree t place (suc g.serial) g in
      of_calls t these [] none (record {
        stands = record {
          cpus = λ g here. rw (ap (λ (f : List ℕ). text_in before (root ++ (f ++ cpus_file))) (there g), ap cpus_in (entry g))
              (was.stands.cpus g (sym (ap is_some (place g)) ∙ here));
          mems = λ g here. rw (ap (λ (f : List ℕ). text_in before (root ++ (f ++ mems_file))) (there g), ap mems_in (entry g))
              (was.stands.mems g (sym (ap is_some (place g)) ∙ here));
        };
        plain = λ g p name is. was.plain g p name (sym (place g) ∙ is);
      })

  kept : (new : KernelState) (these : List Asked) → PartOf new.tree these → IsWellFormed new → HaveOwnNames new.tree.groups → Kept root memory new (these ++ before)
  kept new these part well own = record { stands = part.stands; well = well; own = own; plain = part.plain }

  own_tree : (new : KernelState) → new.tree ≡ old.tree → HaveOwnNames new.tree.groups
  own_tree new same = subst (λ (t : TreeState). HaveOwnNames t.groups) (sym same) was.own

  own_groups : (new : KernelState) → new.tree.groups ≡ old.tree.groups → HaveOwnNames new.tree.groups
  own_groups new same = subst (λ (gs : List GroupEntry). HaveOwnNames gs) (sym same) was.own

  step : (partition : Bool) (event : Event) (new : KernelState) (these : List Asked) → Happens old event new → AsksFor root memory partition old event new these
      → Kept root memory new (these ++ before)
  step partition (Wrote (MadeGroup parent name r)) new these h are =
      kept new these (make_part parent name r new these h are.0 are.1) ((each_case_keeps old new was.well).make parent name r h).well_formed
      (MakesGroup-names old was.own parent name r new h)
  step partition (Wrote (RemovedGroup g r)) new these h are =
      kept new these (remove_part g r new these h are) ((each_case_keeps old new was.well).remove g r h).well_formed (RemovesGroup-names old was.own g r new h)
  step partition (Wrote (WroteCpus g cpus r)) new these h are =
      kept new these (cpus_part partition g cpus r new these h _ _ are) ((each_case_keeps old new was.well).cpus g cpus r h).well_formed (WritesCpus-names old was.own g cpus r new h)
  step partition (Wrote (WroteMems g mems r)) new these h are =
      kept new these (mems_part g mems r new these h are) ((each_case_keeps old new was.well).mems g mems r h).well_formed (WritesMems-names old was.own g mems r new h)
  step partition (Wrote (EndedGroup g r)) new these h are =
      kept new these (end_at (place_of old.tree g) g r new these h are) ((each_case_keeps old new was.well).end g r h).well_formed (own_tree new (writes_keep_tree.end old new g r h))
  step partition (Wrote (Spawned g r)) new these h are =
      let same = writes_keep_tree.spawn old new g r h in
      kept new these (part_none new.tree these same are) ((each_case_keeps old new was.well).spawn g r h).well_formed (own_tree new same)
  step partition (Forked parent r) new these h are =
      let same = (events_keep_groups.fork old new parent r h).0.groups in
      kept new these (groups_part new.tree these same are) ((each_case_keeps old new was.well).fork parent r h).well_formed (own_groups new same)
  step partition (Exited pid r) new these h are =
      let same = (events_keep_groups.exit old new pid r h).0.groups in
      kept new these (groups_part new.tree these same are) ((each_case_keeps old new was.well).exit pid r h).well_formed (own_groups new same)
  step partition (WentOffline cpu r) new these h are =
      let same = (events_keep_groups.offline old new cpu r h).0.groups in
      kept new these (groups_part new.tree these same are) ((each_case_keeps old new was.well).offline cpu r h).well_formed (own_groups new same)
  step partition (CameOnline cpu r) new these h are =
      let same = (events_keep_groups.online old new cpu r h).0.groups in
      kept new these (groups_part new.tree these same are) ((each_case_keeps old new was.well).online cpu r h).well_formed (own_groups new same)

-- a kernel of the root group alone
begun : (site : Site) (k : KernelState) → IsNew site k → Kept site.root site.memory k []
begun site k new =
    let none : (g : Group) → place_of k.tree g ≡ None = λ g.
    ap (λ (t : TreeState). place_of t g) new.first.first_tree.is ∙ no_place (new_entry new.first.first_tree.root None []) g refl in
    record {
      stands = record {
        cpus = λ g here. absurd (both_ways (is_some (place_of k.tree g)) (ap is_some (none g)) here);
        mems = λ g here. absurd (both_ways (is_some (place_of k.tree g)) (ap is_some (none g)) here);
      };
      well = new.well;
      own = names_of_first site.first.online site.first.nodes k.tree new.first.first_tree;
      plain = λ g p name is. absurd (none-some (p, name) (sym (none g) ∙ is));
    }

pub past_kept : (site : Site) (past : List Event) (k : KernelState) (calls : List Asked) → Past site past k calls → Kept site.root site.memory k calls
unfolding Past
past_kept site [] k calls (new, none) = subst (λ (cs : List Asked). Kept site.root site.memory k cs) (sym none) (begun site k new)
past_kept site (event ∷ past) k calls (old, before, these, was, happens, asks, are) =
    subst (λ (cs : List Asked). Kept site.root site.memory k cs) (sym are)
    (step site.root site.memory old before (past_kept site past old before was) site.partition event k these happens asks)

pub pasts_stand : PastsStand
pasts_stand site past k calls was =
    let it : Kept site.root site.memory k calls = past_kept site past k calls was in
    (it.stands, plain_names_apart k.tree it.well.tree it.own it.plain)

-- the writing calls among those that led to a kernel are those that it was asked for
pub pasts_are_told : PastsAreTold
unfolding Past
pasts_are_told site [] k calls (new, none) = sym new.first.none_written
pasts_are_told site (Wrote call ∷ past) k calls (old, before, these, was, happens, asks, are) =
    ap (λ (earlier : List WritingCall). call ∷ earlier) (pasts_are_told site past old before was) ∙ sym (tells_each_write old call k happens)
pasts_are_told site (Forked parent r ∷ past) k calls (old, before, these, was, happens, asks, are) =
    pasts_are_told site past old before was ∙ sym (events_keep_groups.fork old k parent r happens).0.trace
pasts_are_told site (Exited pid r ∷ past) k calls (old, before, these, was, happens, asks, are) =
    pasts_are_told site past old before was ∙ sym (events_keep_groups.exit old k pid r happens).0.trace
pasts_are_told site (WentOffline cpu r ∷ past) k calls (old, before, these, was, happens, asks, are) =
    pasts_are_told site past old before was ∙ sym (events_keep_groups.offline old k cpu r happens).0.trace
pasts_are_told site (CameOnline cpu r ∷ past) k calls (old, before, these, was, happens, asks, are) =
    pasts_are_told site past old before was ∙ sym (events_keep_groups.online old k cpu r happens).0.trace

-- what was told of calls is so whatever was called behind them
told_behind : (next : Option Deed) (calls : List Asked) → AreTold calls → AreToldBehind next calls
unfolding AreToldBehind
told_behind next [] told = tt
told_behind next (call ∷ before) told =
    (λ failed. absurd (none-some (Told (path_of call.deed) (remark_on call.deed)) (told.0 failed)), told.1)

module _ (before : List Asked) (told : AreTold before) where
  -- of one that was done, one that was refused, and looks
  told_done : (deed : Deed) (calls : List Asked) → AreTold calls → AreTold (done deed ∷ calls)
  unfolding AreToldBehind
  told_done deed calls was = (λ failed. absurd (true≢false failed), told_behind (Some deed) calls was)

  told_refused : (deed : Deed) (calls : List Asked) → AreTold calls → AreTold (refusal deed ++ calls)
  unfolding AreToldBehind
  told_refused deed calls was =
      (λ failed. absurd (true≢false failed), (λ failed. refl, told_behind (Some deed) calls was))

  told_looked : (deed : Deed) (same : Bool) (calls : List Asked) → AreTold calls → AreTold (looked deed same ++ calls)
  told_looked deed true calls was = told_done deed calls was
  told_looked deed false calls was = told_refused deed calls was

  told_looks : (partition : Bool) (root : List ℕ) (look : Deed) (same intact : Bool) (calls : List Asked) → AreTold calls
      → AreTold (looks_behind partition root look same intact ++ calls)
  told_looks false root look same intact calls was = told_looked look same calls was
  told_looks true root look same intact calls was =
      rw (append_assoc (looked (Compared (root ++ partition_file) partition_line) intact) (looked look same) calls)
      (told_looked (Compared (root ++ partition_file) partition_line) intact (looked look same ++ calls) (told_looked look same calls was))

  told_of : (these those : List Asked) → these ≡ those → AreTold (those ++ before) → AreTold (these ++ before)
  told_of these those are now = subst (λ (cs : List Asked). AreTold (cs ++ before)) (sym are) now

  told_noticed : (name : List ℕ) (these : List Asked) → IsNoticed name these → AreTold (these ++ before)
  told_noticed name these (inl are) = told_of these (notice name NoRoom) are (told_done (Told name NoRoom) before told)
  told_noticed name these (inr are) = told_of these (notice name NoName) are (told_done (Told name NoName) before told)

  told_asked : {A : Type 0} (deed : Deed) (r : Result A KernelFault) (these : List Asked) → IsAsked deed r these → AreTold (these ++ before)
  told_asked deed (Ok value) these are = told_of these (done deed ∷ []) are (told_done deed before told)
  told_asked deed (Err Failed) these are = told_of these (refusal deed) are (told_refused deed before told)
  told_asked deed (Err fault) these are = told_of these [] are told

  told_asked_at : {P A : Type 0} (place : Option P) (root : List ℕ) (deed : Deed) (r : Result A KernelFault) (these : List Asked) → IsAskedAt place root deed r these
      → AreTold (these ++ before)
  told_asked_at None root deed (Ok value) these are = told_of these [] are told
  told_asked_at None root deed (Err Failed) these are = told_of these (notice root IsLeft) are (told_done (Told root IsLeft) before told)
  told_asked_at None root deed (Err fault) these are = told_of these [] are told
  told_asked_at (Some place) root deed r these are = told_asked deed r these are

  told_both : {A : Type 0} (name : List ℕ) (first next undone : Deed) (r : Result A (OrMemory KernelFault)) (these : List Asked) → AreAsked name first next undone r these
      → AreTold (these ++ before)
  told_both name first next undone (Ok value) these are = told_of these _ are (told_done next (done first ∷ before) (told_done first before told))
  told_both name first next undone (Err Memory) these (inl are) =
      told_of these _ are (told_done undone (done next ∷ done first ∷ before) (told_done next (done first ∷ before) (told_done first before told)))
  told_both name first next undone (Err Memory) these (inr are) =
      told_of these _ are (told_refused undone (done next ∷ done first ∷ before) (told_done next (done first ∷ before) (told_done first before told)))
  told_both name first next undone (Err (Fault Failed)) these (inl are) = told_of these _ are (told_refused next (done first ∷ before) (told_done first before told))
  told_both name first next undone (Err (Fault Failed)) these (inr (inl are)) = told_of these _ are (told_refused first before told)
  told_both name first next undone (Err (Fault Failed)) these (inr (inr are)) = told_noticed name these are
  told_both name first next undone (Err (Fault fault)) these are = told_of these [] are told

  told_wrote : {A : Type 0} (partition : Bool) (root : List ℕ) (write look : Deed) (r : Result A KernelFault) (these : List Asked)
      → AreAskedAndLooked write (looks_behind partition root look) r these → AreTold (these ++ before)
  told_wrote partition root write look (Ok value) these (same, intact, are) =
      told_of these _ are (rw (append_assoc (looks_behind partition root look same intact) (done write ∷ []) before)
      (told_looks partition root look same intact (done write ∷ before) (told_done write before told)))
  told_wrote partition root write look (Err Failed) these are = told_of these (refusal write) are (told_refused write before told)
  told_wrote partition root write look (Err fault) these are = told_of these [] are told

  told_step : (root : List ℕ) (memory : Ids) (partition : Bool) (old : KernelState) (event : Event) (new : KernelState) (these : List Asked)
      → AsksFor root memory partition old event new these → AreTold (these ++ before)
  told_step root memory partition old (Wrote (MadeGroup parent name r)) new these are = told_both name _ _ _ r these are.0
  told_step root memory partition old (Wrote (RemovedGroup g r)) new these are = told_asked _ r these are
  told_step root memory partition old (Wrote (WroteCpus g cpus r)) new these are = told_wrote partition root _ _ r these are
  told_step root memory partition old (Wrote (WroteMems g mems r)) new these are = told_asked _ r these are
  told_step root memory partition old (Wrote (EndedGroup g r)) new these are = told_asked_at (place_of old.tree g) root _ r these are
  told_step root memory partition old (Wrote (Spawned g r)) new these are = told_of these [] are told
  told_step root memory partition old (Forked parent r) new these are = told_of these [] are told
  told_step root memory partition old (Exited pid r) new these are = told_of these [] are told
  told_step root memory partition old (WentOffline cpu r) new these are = told_of these [] are told
  told_step root memory partition old (CameOnline cpu r) new these are = told_of these [] are told

none_told : AreTold []
unfolding AreToldBehind
none_told = tt

-- what the files refused was told
pub refusals_are_told : RefusalsAreTold
unfolding Past
refusals_are_told site [] k calls (new, none) = subst (λ (cs : List Asked). AreTold cs) (sym none) none_told
refusals_are_told site (event ∷ past) k calls (old, before, these, was, happens, asks, are) =
    subst (λ (cs : List Asked). AreTold cs) (sym are)
    (told_step before (refusals_are_told site past old before was) site.root site.memory site.partition old event k these asks)

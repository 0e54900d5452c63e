-- What files name in the midst of a call, and what their texts are as lists.
use Rattle.std.proofs.Common.{◌≡◌, inl, inr, ℕ, ◌≤◌, ◌^◌, Bool, true, false, List, [], ◌∷◌, ◌++◌, refl, sym, ap, ◌∙◌, subst, lit≤}
use Rattle.std.proofs.lemmas.List.{append_assoc}
use Rattle.std.specs.List.{list_any}
use Rattle.std.specs.Prelude.{◌⊎◌, Option, Some, None, is_some, Result, Ok, Err}
use Rattle.faults.specs.declared.or_memory.OrMemory.{OrMemory}
use Rattle.faults.specs.declared.or_memory.OrMemory.TheVariants.{Memory, Fault}
use Rattle.cpu_set.specs.Ids.{Ids}
use Rattle.cpu_set.specs.declared.TheConstants.{CPU_LIMIT}
use Rattle.cpu_list.specs.CanonicalList.{list_text}
use Rattle.cpu_list.specs.CanonicalLaws.{TextIsCanonical, CanonicalReadsAgain}
use Rattle.cpu_list.specs.FirstFault.{NoneWhereList}
use Rattle.cpuset_tree.specs.declared.Group.{Group}
use Rattle.cpuset_tree.specs.TreeState.{TreeState}
use Rattle.cpuset_tree.specs.Groups.{requested_cpus}
use Rattle.cpuset_tree.specs.Places.{place_of}
use Rattle.cpuset_tree.specs.TreeChanges.{with_cpus}
use Rattle.kernel_model.specs.declared.KernelFault.{KernelFault}
use Rattle.kernel_model.specs.declared.KernelFault.TheVariants.{Failed}
use Rattle.kernel_model.specs.Trace.{MadeGroup, RemovedGroup, WroteCpus, WroteMems, Spawned, EndedGroup}
use Rattle.kernel_model.specs.KernelState.{KernelState}
use Rattle.kernel_model.specs.RefusalLemmas.{calls_are_free}
use Rattle.kernel_model.specs.NameLemmas.{none_of_name}
use Rattle.kernel_model.specs.Refusals.{make_refusal}
use Rattle.kernel_model.specs.Cases.{MakesGroup, WritesCpus}
use Rattle.cgroup_tree.specs.Asked.{Deed, Asked, Made, Unmade, Written, Compared, Told, NoRoom, NoName, IsLeft, done, refusal}
use Rattle.cgroup_tree.specs.Mirrored.{IsNamed, looked, looks_behind}
use Rattle.cgroup_tree.specs.Paths.{is_slash, folder, below, cpus_file, controls_file, controls_line, partition_file, partition_line, list_line}
use Rattle.cgroup_tree.specs.Site.{Site}
use Rattle.cgroup_tree.specs.Standing.{text_in, IsLineOf, StandsFor}
use Rattle.cgroup_tree.specs.StandingLemmas.{writes_stand}
use Rattle.cgroup_tree.specs.ChangeLemmas.{passed_on, unmade, compared, refused_and_told, looked_at}
use Rattle.cgroup_tree.specs.ApartLemmas.{plain_names_apart, one_folder_there, entry_placed, some_of}
use Rattle.cgroup_tree.specs.PastLemmas.{Kept, placed_free, past_kept, pasts_stand}
use Rattle.cgroup_tree.specs.Events.{Event, Wrote, Forked, Exited, WentOffline, CameOnline, Happens, IsAsked, IsAskedAt, AreAsked, AreAskedAndLooked, AsksFor, Past}
use Rattle.restarts.specs.Files.{AtEachMoment, MomentsStand, IsFileOf, FilesNameCpus}

module _ (root : List ℕ) (memory : Ids) (partition : Bool) (old new : KernelState) (before : List Asked) (was : Kept root memory old before) where
  abbrev Stood : List Asked → Type 0
  Stood so_far = StandsFor root memory old.tree (so_far ++ before) ⊎ StandsFor root memory new.tree (so_far ++ before)

  module _ (these : List Asked) (whole : StandsFor root memory new.tree (these ++ before)) where
    -- of these calls, each of which the files were asked for behind the ones before it
    of_these : (those : List Asked) → these ≡ those → (StandsFor root memory new.tree (those ++ before) → AtEachMoment Stood those) → AtEachMoment Stood these
    of_these those are each =
        subst (AtEachMoment Stood) (sym are) (each (subst (λ (cs : List Asked). StandsFor root memory new.tree (cs ++ before)) are whole))

    none : these ≡ [] → AtEachMoment Stood these
    none are = of_these [] are (λ all. inr all)

    one : (call : Asked) → these ≡ call ∷ [] → AtEachMoment Stood these
    one call are = of_these (call ∷ []) are (λ all. (inr all, inl was.stands))

    -- one that was refused, and told
    failed : (deed : Deed) → these ≡ refusal deed → AtEachMoment Stood these
    failed deed are = of_these (refusal deed) are (λ all. (inr all, (inl (writes_stand.refused root memory old.tree deed before was.stands), inl was.stands)))

    asked : {A : Type 0} (deed : Deed) (r : Result A KernelFault) → IsAsked deed r these → AtEachMoment Stood these
    asked deed (Ok value) are = one (done deed) are
    asked deed (Err Failed) are = failed deed are
    asked deed (Err fault) are = none are

    asked_at : {P A : Type 0} (place : Option P) (deed : Deed) (r : Result A KernelFault) → IsAskedAt place root deed r these → AtEachMoment Stood these
    asked_at None deed (Ok value) are = none are
    asked_at None deed (Err Failed) are = one (done (Told root IsLeft)) are
    asked_at None deed (Err fault) are = none are
    asked_at (Some place) deed r are = asked deed r are

    -- a look, behind calls by which the new kernel stands
    look : (path line : List ℕ) (same : Bool) (calls : List Asked) → StandsFor root memory new.tree (calls ++ before) → AtEachMoment Stood calls
        → AtEachMoment Stood (looked (Compared path line) same ++ calls)
    look path line true calls stands each = (inr (compared root memory new.tree path line (calls ++ before) stands), each)
    look path line false calls stands each = (
      inr (refused_and_told root memory new.tree (Compared path line) (calls ++ before) stands),
      (inr (writes_stand.refused root memory new.tree (Compared path line) (calls ++ before) stands), each),
    )

    -- a write of CPUs, and the looks behind it
    looks : (partition : Bool) (path line : List ℕ) (same intact : Bool) (write : Asked) → StandsFor root memory new.tree (write ∷ before)
        → these ≡ looks_behind partition root (Compared path line) same intact ++ write ∷ [] → AtEachMoment Stood these
    looks false path line same intact write stands are = subst (AtEachMoment Stood) (sym are) (look path line same (write ∷ []) stands (inr stands, inl was.stands))
    looks true path line same intact write stands are =
        let effect : List Asked = looked (Compared path line) same in
        let behind : StandsFor root memory new.tree ((effect ++ write ∷ []) ++ before) =
        rw (append_assoc effect (write ∷ []) before) (looked_at root memory new.tree path line same (write ∷ before) stands) in
        subst (AtEachMoment Stood) (sym (are ∙ append_assoc (looked (Compared (root ++ partition_file) partition_line) intact) effect (write ∷ [])))
        (look (root ++ partition_file) partition_line intact (effect ++ write ∷ []) behind (look path line same (write ∷ []) stands (inr stands, inl was.stands)))

    cpus : (g : Group) (ids : Ids) (r : Result (Unit {0}) KernelFault) (path line : List ℕ) → WritesCpus old g ids r new
        → AreAskedAndLooked (Written (root ++ (folder old.tree g ++ cpus_file)) (list_line ids)) (looks_behind partition root (Compared path line)) r these
        → AtEachMoment Stood these
    cpus g ids (Ok value) path line wrote (same, intact, are) =
        let write : Asked = done (Written (root ++ (folder old.tree g ++ cpus_file)) (list_line ids)) in
        let stands : StandsFor root memory (with_cpus old.tree g ids) (write ∷ before) =
        writes_stand.cpus root memory old.tree g ids before (plain_names_apart old.tree was.well.tree was.own was.plain) (placed_free old g wrote.0) was.stands in
        looks partition path line same intact write (subst (λ (t : TreeState). StandsFor root memory t (write ∷ before)) (sym (ap (λ (k : KernelState). k.tree) wrote.1)) stands) are
    cpus g ids (Err Failed) path line wrote are = failed (Written (root ++ (folder old.tree g ++ cpus_file)) (list_line ids)) are
    cpus g ids (Err fault) path line wrote are = none are

    -- a group that is made, or is not
    module _ (parent : Group) (name : List ℕ) where
      abbrev controls : Deed
      controls = Written (root ++ (folder old.tree parent ++ controls_file)) controls_line

      abbrev made : Deed
      made = Made (root ++ (folder old.tree parent ++ below name))

      abbrev gone : Deed
      gone = Unmade (root ++ (folder old.tree parent ++ below name))

      passed : StandsFor root memory old.tree (done controls ∷ before)
      passed = passed_on root memory old.tree parent before was.stands

      -- no group has that folder yet
      none_has : make_refusal old parent name ≡ None → list_any is_slash name ≡ false → (h : Group) → is_some (place_of old.tree h) ≡ true
          → folder old.tree h ≡ folder old.tree parent ++ below name → ⊥
      none_has free plain h here same =
          let at = some_of (place_of old.tree h) here in
          let entry = entry_placed old.tree h at.0.0 at.0.1 at.1 in
          let parts = ((calls_are_free old).make parent name).0 free in
          let above = one_folder_there old.tree was.well.tree was.own was.plain h parent at.0.0 name at.0.1 plain at.1 parts.0 same in
          none_of_name old.tree parent name parts.1 h entry.entry entry.there (entry.above ∙ ap Some above.0) (entry.named ∙ above.1)

      folder_there : make_refusal old parent name ≡ None → list_any is_slash name ≡ false → StandsFor root memory old.tree (done made ∷ done controls ∷ before)
      folder_there free plain = unmade root memory old.tree parent name (done controls ∷ before) (none_has free plain) passed

      makes : (r : Result Group (OrMemory KernelFault)) → MakesGroup old parent name r new → AreAsked name controls made gone r these → IsNamed name r → AtEachMoment Stood these
      makes (Ok g) h are named = of_these (done made ∷ done controls ∷ []) are (λ all. (inr all, (inl passed, inl was.stands)))
      makes (Err Memory) h (inl are) named =
          of_these (done gone ∷ done made ∷ done controls ∷ []) are (λ all. (inr all, (inl (folder_there h.0 named.no_slash), (inl passed, inl was.stands))))
      makes (Err Memory) h (inr are) named =
          of_these (refusal gone ++ done made ∷ done controls ∷ []) are
          (λ all. (
            inr all,
            (
              inl (writes_stand.refused root memory old.tree gone (done made ∷ done controls ∷ before) (folder_there h.0 named.no_slash)),
              (inl (folder_there h.0 named.no_slash), (inl passed, inl was.stands)),
            ),
          ))
      makes (Err (Fault Failed)) h (inl are) named =
          of_these (refusal made ++ done controls ∷ []) are
          (λ all. (inr all, (inl (writes_stand.refused root memory old.tree made (done controls ∷ before) passed), (inl passed, inl was.stands))))
      makes (Err (Fault Failed)) h (inr (inl are)) named = failed controls are
      makes (Err (Fault Failed)) h (inr (inr (inl are))) named = one (done (Told name NoRoom)) are
      makes (Err (Fault Failed)) h (inr (inr (inr are))) named = one (done (Told name NoName)) are
      makes (Err (Fault fault)) h are named = none are

    each : (event : Event) → Happens old event new → AsksFor root memory partition old event new these → AtEachMoment Stood these
    each (Wrote (MadeGroup parent name r)) h are = makes parent name r h are.0 are.1
    each (Wrote (RemovedGroup g r)) h are = asked _ r are
    each (Wrote (WroteCpus g ids r)) h are = cpus g ids r _ _ h are
    each (Wrote (WroteMems g mems r)) h are = asked _ r are
    each (Wrote (EndedGroup g r)) h are = asked_at (place_of old.tree g) _ r are
    each (Wrote (Spawned g r)) h are = none are
    each (Forked pid r) h are = none are
    each (Exited pid r) h are = none are
    each (WentOffline cpu r) h are = none are
    each (CameOnline cpu r) h are = none are

-- the calls with one more
one_more : (site : Site) (past : List Event) (event : Event) (old new : KernelState) (before these : List Asked) → Past site past old before
    → Happens old event new → AsksFor site.root site.memory site.partition old event new these → Past site (event ∷ past) new (these ++ before)
unfolding Past
one_more site past event old new before these was happens asks = (old, before, these, was, happens, asks, refl)

pub moments_stand : MomentsStand
moments_stand site past event old new before these was happens asks =
    each site.root site.memory site.partition old new before (past_kept site past old before was) these
    (pasts_stand site (event ∷ past) new (these ++ before) (one_more site past event old new before these was happens asks)).0 event happens asks

pub files_name_cpus : TextIsCanonical → CanonicalReadsAgain → NoneWhereList → FilesNameCpus
files_name_cpus canonical again none_where root memory s calls g stands placed some ranged =
    by (text_in calls (root ++ (folder s g ++ cpus_file))) refl (stands.cpus g placed) where
      by : (o : Option (List ℕ)) → text_in calls (root ++ (folder s g ++ cpus_file)) ≡ o → IsLineOf o (requested_cpus s g)
          → IsFileOf calls (root ++ (folder s g ++ cpus_file)) (requested_cpus s g)
      by None is empty = absurd (some empty)
      by (Some line) is written =
          let small : CPU_LIMIT ≤ 2 ^ 64 = lit≤ tt in
          let reads = again (requested_cpus s g) (list_text (requested_cpus s g)) CPU_LIMIT small ranged (canonical (requested_cpus s g) ranged) in
          record {
            list = list_text (requested_cpus s g);
            text = is ∙ ap Some written;
            names = ((none_where CPU_LIMIT (list_text (requested_cpus s g))).1 reads.is_list, reads.members, some);
          }

-- The laws of names, proved.
use Rattle.std.proofs.Common.{◌≡◌, ℕ, Bool, true, false, cond, ◌&&◌, List, [], ◌∷◌, refl, sym, ap, ◌∙◌, subst}
use Rattle.std.proofs.lemmas.Bool.{both_ways, and_from}
use Rattle.std.proofs.lemmas.Option.{same_Some, none-some}
use Rattle.std.specs.Prelude.{Option, Some, None, Result, find, option_map, nat_eq}
use Rattle.std.specs.Cmp.Lexicographic.{pointwise}
use Rattle.std.proofs.lemmas.Slice.Eq.{bytes_eq-Decides}
use Rattle.faults.specs.declared.or_memory.OrMemory.{OrMemory}
use Rattle.cpu_set.specs.Ids.{Ids}
use Rattle.cpuset_tree.specs.declared.Group.{Group}
use Rattle.cpuset_tree.specs.TreeState.{GroupEntry, TreeState}
use Rattle.cpuset_tree.specs.Groups.{same_group, entry_among, entry_of, is_parent, child_of}
use Rattle.cpuset_tree.specs.TreeChanges.{IsFirstTree, new_entry, without_group, with_cpus, with_mems}
use Rattle.cpuset_tree.specs.TreeLaws.{StandsAs, GroupAdded}
use Rattle.cpuset_tree.specs.TreeLemmas.{same_is_equal, stands_itself, added_leaves, removed_leaves, writes_leave_places}
use Rattle.kernel_model.specs.declared.fault.KernelFault.{KernelFault}
use Rattle.kernel_model.specs.declared.call.Call.TheVariants.{MakeGroup, RemoveGroup, WriteCpus, WriteMems, Spawn, EndGroup, Root, FindGroup, RequestedCpus, EffectiveCpus, RequestedMems, EffectiveMems, Online, Nodes, FirstAlive, Fork, Exit, Offline, OnlineCpu}
use Rattle.kernel_model.specs.KernelState.{KernelState}
use Rattle.kernel_model.specs.Refusals.{make_refusal, remove_refusal, write_refusal}
use Rattle.kernel_model.specs.Trace.{MadeGroup, RemovedGroup, WroteCpus, WroteMems}
use Rattle.kernel_model.specs.Cases.{MakesGroup, MakesGroupOf, RemovesGroup, RemovesGroupOf, WritesCpus, WritesCpusOf, WritesMems, WritesMemsOf}
use Rattle.kernel_model.specs.CaseLemmas.{Writes-keeps, GrowingWrites-keeps}
use Rattle.kernel_model.specs.RefusalLemmas.{calls_are_free}
use Rattle.kernel_model.specs.KernelLemmas.{writes_keep_tree, events_keep_groups}
use Rattle.kernel_model.specs.Names.{HaveOwnNames, FirstHasOwnNames, StepsKeepNames, RunsKeepNames}

-- an entry that a search passed over does not meet its test
passed : (test : GroupEntry → Bool) (q : Group) (groups : List GroupEntry) (f : GroupEntry) → find test groups ≡ None → entry_among groups q ≡ Some f → test f ≡ false
passed test q [] f none at = absurd (none-some f at)
passed test q (e ∷ older) f none at = by (test e) refl (same_group e.group q) (passed test q older f) none at where
  by : (meets : Bool) → test e ≡ meets → (same : Bool) → (find test older ≡ None → entry_among older q ≡ Some f → test f ≡ false)
      → cond meets (Some e) (find test older) ≡ None → cond same (Some e) (entry_among older q) ≡ Some f → test f ≡ false
  by true is same later none at = absurd (none-some e (sym none))
  by false is true later none at = ap test (sym (same_Some e f at)) ∙ is
  by false is false later none at = later none at

nothing_found : (o : Option GroupEntry) → option_map (λ e. e.group) o ≡ None → o ≡ None
nothing_found None is = refl
nothing_found (Some e) is = absurd (none-some e.group (sym is))

-- where each group stands as it did
stand_alike : (s new : TreeState) → ((p : Group) (e : GroupEntry) → entry_of new p ≡ Some e → StandsAs s p e) → HaveOwnNames s.groups → HaveOwnNames new.groups
stand_alike s new before own p q e f at_p at_q parent name =
    let a : StandsAs s p e = before p e at_p in
    let b : StandsAs s q f = before q f at_q in
    own p q a.entry b.entry a.there b.there (sym a.place.parent ∙ parent ∙ b.place.parent) (sym a.place.name ∙ name ∙ b.place.name)

-- no group has this parent and this name where no such child is found
pub none_of_name : (s : TreeState) (parent : Group) (name : List ℕ) → child_of s parent name ≡ None
    → (q : Group) (f : GroupEntry) → entry_of s q ≡ Some f → f.parent ≡ Some parent → f.name ≡ name → ⊥
none_of_name s parent name free q f at below named =
    let is_child : GroupEntry → Bool = λ e. is_parent e.parent parent && pointwise nat_eq e.name name in
    both_ways (is_child f) (passed is_child q s.groups f (nothing_found (find is_child s.groups) free) at)
    (and_from (is_parent f.parent parent) (pointwise nat_eq f.name name)
    (ap (λ (o : Option Group). is_parent o parent) below ∙ (same_is_equal parent parent).1 refl)
    ((bytes_eq-Decides f.name name).1 named))

-- a group more, where its parent had no child of that name
module _ (s new : TreeState) (parent : Group) (name : List ℕ) (g : Group) (added : GroupAdded s new parent name g) (free : child_of s parent name ≡ None)
    (own : HaveOwnNames s.groups) where
  equal : (p : Group) → same_group g p ≡ true → g ≡ p
  equal p same = (same_is_equal g p).0 same

  is_old : (p : Group) (e : GroupEntry) → same_group g p ≡ false → entry_of new p ≡ Some e → entry_of s p ≡ Some e
  is_old p e other at = sym (added.others p other) ∙ at

  is_new : (p : Group) (e : GroupEntry) → same_group g p ≡ true → entry_of new p ≡ Some e → new_entry g (Some parent) name ≡ e
  is_new p e same at = same_Some (new_entry g (Some parent) name) e (sym added.there ∙ ap (entry_of new) (equal p same) ∙ at)

  names_added : HaveOwnNames new.groups
  names_added p q e f at_p at_q above text = by (same_group g p) refl (same_group g q) refl where
    by : (a : Bool) → same_group g p ≡ a → (b : Bool) → same_group g q ≡ b → same_group p q ≡ true
    by true is_p true is_q = (same_is_equal p q).1 (sym (equal p is_p) ∙ equal q is_q)
    by true is_p false is_q =
        let new : new_entry g (Some parent) name ≡ e = is_new p e is_p at_p in
        absurd (none_of_name s parent name free q f (is_old q f is_q at_q) (sym above ∙ ap (λ (x : GroupEntry). x.parent) (sym new)) (sym text ∙ ap (λ (x : GroupEntry). x.name) (sym new)))
    by false is_p true is_q =
        let new : new_entry g (Some parent) name ≡ f = is_new q f is_q at_q in
        absurd (none_of_name s parent name free p e (is_old p e is_p at_p) (above ∙ ap (λ (x : GroupEntry). x.parent) (sym new)) (text ∙ ap (λ (x : GroupEntry). x.name) (sym new)))
    by false is_p false is_q = own p q e f (is_old p e is_p at_p) (is_old q f is_q at_q) above text

-- a group less
still_there : (s : TreeState) (g p : Group) (e : GroupEntry) → entry_of (without_group s g) p ≡ Some e → StandsAs s p e
still_there s g p e at = by (same_group g p) refl where
  by : (same : Bool) → same_group g p ≡ same → StandsAs s p e
  by true is = absurd (none-some e (sym (removed_leaves s g).gone ∙ ap (entry_of (without_group s g)) ((same_is_equal g p).0 is) ∙ at))
  by false is = stands_itself s p e (sym ((removed_leaves s g).others p is) ∙ at)

abbrev Own : KernelState → Type 0
Own k = HaveOwnNames k.tree.groups

module _ (old : KernelState) (own : Own old) where
  pub MakesGroup-names : (parent : Group) (name : List ℕ) (r : Result Group (OrMemory KernelFault)) (new : KernelState) → MakesGroup old parent name r new → Own new
  MakesGroup-names parent name =
      GrowingWrites-keeps Own (make_refusal old parent name) (MakesGroupOf old parent name) old
      (λ g new none does. names_added old.tree new.tree parent name g (added_leaves old.tree new.tree parent name g does.does)
      (((calls_are_free old).make parent name).0 none).1 own)
      (λ _. own) (λ _. own) (MadeGroup parent name)

  pub RemovesGroup-names : (g : Group) (r : Result (Unit {0}) KernelFault) (new : KernelState) → RemovesGroup old g r new → Own new
  RemovesGroup-names g =
      Writes-keeps Own (remove_refusal old g) (RemovesGroupOf old g) old
      (λ _ new none does. subst (λ (k : KernelState). Own k) (sym does) (stand_alike old.tree (without_group old.tree g) (still_there old.tree g) own))
      (λ _. own) (λ _. own) (RemovedGroup g)

  pub WritesCpus-names : (g : Group) (cpus : Ids) (r : Result (Unit {0}) KernelFault) (new : KernelState) → WritesCpus old g cpus r new → Own new
  WritesCpus-names g cpus =
      Writes-keeps Own (write_refusal old g) (WritesCpusOf old g cpus) old
      (λ _ new none does. subst (λ (k : KernelState). Own k) (sym does)
      (stand_alike old.tree (with_cpus old.tree g cpus) (writes_leave_places.0 old.tree g cpus).before own))
      (λ _. own) (λ _. own) (WroteCpus g cpus)

  pub WritesMems-names : (g : Group) (mems : Ids) (r : Result (Unit {0}) KernelFault) (new : KernelState) → WritesMems old g mems r new → Own new
  WritesMems-names g mems =
      Writes-keeps Own (write_refusal old g) (WritesMemsOf old g mems) old
      (λ _ new none does. subst (λ (k : KernelState). Own k) (sym does)
      (stand_alike old.tree (with_mems old.tree g mems) (writes_leave_places.1 old.tree g mems).before own))
      (λ _. own) (λ _. own) (WroteMems g mems)

  same_tree : (new : KernelState) → new.tree ≡ old.tree → Own new
  same_tree new is = subst (λ (t : TreeState). HaveOwnNames t.groups) (sym is) own

  same_groups : (new : KernelState) → new.tree.groups ≡ old.tree.groups → Own new
  same_groups new is = subst (λ (gs : List GroupEntry). HaveOwnNames gs) (sym is) own

  same_kernel : (new : KernelState) → new ≡ old → Own new
  same_kernel new is = subst (λ (k : KernelState). Own k) (sym is) own

pub steps_keep_names : StepsKeepNames
steps_keep_names old new (MakeGroup parent name) r own (a, is, h) = MakesGroup-names old own parent _ a new h
steps_keep_names old new (RemoveGroup g) r own (a, is, h) = RemovesGroup-names old own g a new h
steps_keep_names old new (WriteCpus g cpus) r own (a, is, h) = WritesCpus-names old own g cpus a new h
steps_keep_names old new (WriteMems g mems) r own (a, is, h) = WritesMems-names old own g mems a new h
steps_keep_names old new (Spawn g) r own (a, is, h) = same_tree old own new (writes_keep_tree.spawn old new g a h)
steps_keep_names old new (EndGroup g) r own (a, is, h) = same_tree old own new (writes_keep_tree.end old new g a h)
steps_keep_names old new Root r own (g, root, is, same) = same_kernel old own new same
steps_keep_names old new (FindGroup parent name) r own (is, same) = same_kernel old own new same
steps_keep_names old new (RequestedCpus g) r own (is, same) = same_kernel old own new same
steps_keep_names old new (EffectiveCpus g) r own (is, same) = same_kernel old own new same
steps_keep_names old new (RequestedMems g) r own (is, same) = same_kernel old own new same
steps_keep_names old new (EffectiveMems g) r own (is, same) = same_kernel old own new same
steps_keep_names old new Online r own (is, same) = same_kernel old own new same
steps_keep_names old new Nodes r own (is, same) = same_kernel old own new same
steps_keep_names old new (FirstAlive pid) r own (is, same) = same_kernel old own new same
steps_keep_names old new (Fork parent) r own (a, is, h) = same_groups old own new (events_keep_groups.fork old new parent a h).0.groups
steps_keep_names old new (Exit pid) r own (a, is, h) = same_groups old own new (events_keep_groups.exit old new pid a h).0.groups
steps_keep_names old new (Offline cpu) r own (a, is, h) = same_groups old own new (events_keep_groups.offline old new cpu a h).0.groups
steps_keep_names old new (OnlineCpu cpu) r own (a, is, h) = same_groups old own new (events_keep_groups.online old new cpu a h).0.groups

pub runs_keep_names : RunsKeepNames
runs_keep_names old new [] [] own is = same_kernel old own new is
runs_keep_names old new [] (r ∷ replies) own h = absurd h
runs_keep_names old new (call ∷ calls) [] own h = absurd h
runs_keep_names old new (call ∷ calls) (r ∷ replies) own (mid, step, rest) = runs_keep_names mid new calls replies (steps_keep_names old mid call r own step) rest

-- a group among a root alone is that root
root_alone : (root : GroupEntry) (p : Group) (e : GroupEntry) → entry_among (root ∷ []) p ≡ Some e → same_group root.group p ≡ true
root_alone root p e at = by (same_group root.group p) at where
  by : (same : Bool) → cond same (Some root) None ≡ Some e → same ≡ true
  by true at = refl
  by false at = absurd (none-some e at)

pub names_of_first : (online nodes : Ids) (s : TreeState) → IsFirstTree online nodes 0 s → HaveOwnNames s.groups
names_of_first online nodes s first =
    subst (λ (t : TreeState). HaveOwnNames t.groups) (sym first.is)
    (λ p q e f at_p at_q above text.
    let root = new_entry first.root None [] in
    (same_is_equal p q).1 (sym ((same_is_equal root.group p).0 (root_alone root p e at_p)) ∙ (same_is_equal root.group q).0 (root_alone root q f at_q)))

pub first_has_own_names : FirstHasOwnNames
first_has_own_names present reserved online nodes first_pid k first = names_of_first online nodes k.tree first.first_tree

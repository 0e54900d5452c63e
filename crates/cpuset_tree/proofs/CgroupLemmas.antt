-- What the slab keeps under a handle's key is what the tree has of the handle's group.
use Rattle.std.proofs.Common.{◌≡◌, ℕ, true, false, List, refl, sym, ap, ◌∙◌}
use Rattle.std.proofs.lemmas.Bool.{both_ways}
use Rattle.std.proofs.lemmas.Option.{same_Some, none-some}
use Rattle.std.specs.Prelude.{Option, Some, None, is_some, is_none}
use Rattle.slab.specs.Slab.{Slab, get}
use Rattle.cpu_set.specs.Ids.{Ids}
use Rattle.cpuset_tree.specs.declared.groups.Group.{Group}
use Rattle.cpuset_tree.specs.declared.groups.Cgroup.{Cgroup}
use Rattle.cpuset_tree.specs.declared.groups.Resource.TheVariants.{Cpus, Mems}
use Rattle.cpuset_tree.specs.TreeState.{TreeState}
use Rattle.cpuset_tree.specs.Groups.{same_group, entry_among, is_root_entry}
use Rattle.cpuset_tree.specs.Kept.{entries_kept, IsSound, IsKeptOf, entry_of_kept, effective_kept}
use Rattle.cpuset_tree.proofs.KeptLemmas.{kept-effective}
use Rattle.cpuset_tree.proofs.ChangeLemmas.{found, not_found}

module _ (s : Slab Cgroup) (keys : List ℕ) (online nodes : Ids) (root : Group) (next : ℕ) (g : Group) where
  abbrev state : TreeState
  state = record { groups = entries_kept s keys; online = online; nodes = nodes; next_serial = next }

  pub kept_of : (n : Cgroup) → IsSound s keys online nodes root next → get s g.key ≡ Some n → same_group n.group g ≡ true → IsKeptOf state g (Some n)
  kept_of n sound at same =
      let is : entry_among (entries_kept s keys) g ≡ Some (entry_of_kept n) = found s next keys sound.in_order g n at same (sound.complete g.key (ap is_some at)) in
      let there : is_some (entry_among (entries_kept s keys) g) ≡ true = ap is_some is in (
        is,
        ap (effective_kept Cpus) (sym at) ∙ kept-effective Cpus s online next keys sound.in_order (sound.all_kept Cpus) g there,
        ap (effective_kept Mems) (sym at) ∙ kept-effective Mems s nodes next keys sound.in_order (sound.all_kept Mems) g there,
      )

  pub none_kept : IsSound s keys online nodes root next → ((n : Cgroup) → get s g.key ≡ Some n → same_group n.group g ≡ false) → IsKeptOf state g None
  none_kept sound other = not_found s next keys sound.in_order g other

-- what is kept of a group that is in the tree
pub record KeptThere (s : Slab Cgroup) (keys : List ℕ) (g : Group) : Type 0 where
  pub kept : Cgroup
  pub at : get s g.key ≡ Some kept
  pub same : same_group kept.group g ≡ true
  pub root : is_none kept.parent ≡ is_root_entry (entry_among (entries_kept s keys) g)

pub kept_there : (s : Slab Cgroup) (keys : List ℕ) (online nodes : Ids) (root : Group) (next : ℕ) (g : Group) → IsSound s keys online nodes root next
    → is_some (entry_among (entries_kept s keys) g) ≡ true → KeptThere s keys g
kept_there s keys online nodes root next g sound there = at_key (get s g.key) refl
  where
    at_key : (o : Option Cgroup) → get s g.key ≡ o → KeptThere s keys g
    at_key None at = absurd (both_ways false refl (sym (ap is_some (not_found s next keys sound.in_order g (λ n is. absurd (none-some n (sym at ∙ is))))) ∙ there))
    at_key (Some n) at =
        elim (same_group n.group g) as (λ t. same_group n.group g ≡ t → KeptThere s keys g) [
          | true ↦ λ same. record {
            kept = n;
            at = at;
            same = same;
            root = ap is_root_entry (sym (found s next keys sound.in_order g n at same (sound.complete g.key (ap is_some at))));
          }
          | false ↦ λ other. absurd (both_ways false refl (sym (ap is_some (not_found s next keys sound.in_order g
              (λ m is. ap (λ (x : Cgroup). same_group x.group g) (same_Some m n (sym is ∙ at)) ∙ other))) ∙ there))
        ] refl

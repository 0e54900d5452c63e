-- A `create` or an `adopt` writes CPUs into the file of its own id alone.
use Rattle.std.proofs.Common.{◌≡◌, inl, inr, ℕ, Bool, true, false, List, [], ◌∷◌, refl, sym, ap, ◌∙◌, subst}
use Rattle.std.specs.Prelude.{◌⊎◌, Option, Some, None, Result, Ok, Err}
use Rattle.std.specs.List.{AllByRecursion}
use Rattle.faults.specs.declared.OrMemory.{OrMemory}
use Rattle.faults.specs.declared.OrMemory.TheVariants.{Memory, Fault}
use Rattle.cpu_set.specs.Ids.{Ids}
use Rattle.cpuset_tree.specs.declared.Group.{Group}
use Rattle.cpuset_tree.specs.TreeState.{TreeState}
use Rattle.cpuset_tree.specs.Groups.{same_group, child_of, requested_cpus}
use Rattle.cpuset_tree.specs.GroupLemmas.{same_group-equal}
use Rattle.kernel_model.specs.declared.KernelFault.{KernelFault}
use Rattle.kernel_model.specs.declared.KernelFault.TheVariants.{NoPids}
use Rattle.kernel_model.specs.KernelState.{KernelState}
use Rattle.kernel_model.specs.Cases.{WritesCpus, WritesMems}
use Rattle.kernel_model.specs.KernelLemmas.{writes_leave_groups, writes_keep_tree}
use Rattle.node.specs.declared.fault.NodeFault.TheVariants.{Kernel}
use Rattle.node.specs.Launch.{AtOnce, FindsOr, WritesSets, StartsIn, Launches}
use Rattle.node.specs.Making.{found_states, set_states, set_states_at_once, start_states, launch_states}
use Rattle.restarts.specs.Restarts.{AsksOnlyOwn, PlacesWriteOwn}
use Rattle.restarts.proofs.ThereLemmas.{all_append}

module _ (old : KernelState) (parent : Group) (name : List ℕ) (cpus : Ids) where
  abbrev Own : KernelState → Type 0
  Own k = AsksOnlyOwn old parent name cpus k

  same_tree : (k next : KernelState) → next.tree ≡ k.tree → Own k → Own next
  same_tree k next same own =
      subst (λ (t : TreeState). (g : Group) → (requested_cpus t g ≡ requested_cpus old.tree g) ⊎ ((child_of t parent name ≡ Some g) × (requested_cpus t g ≡ cpus)))
      (sym same) own

  -- a group that is found or made
  found_own : (o : Option Group) (r : Result Group (OrMemory KernelFault)) (new : KernelState) → FindsOr o old parent name r new → Own new
  found_own (Some g) r new f = λ p. inl (ap (λ (k : KernelState). requested_cpus k.tree p) f.1)
  found_own None r new f = λ p. inl ((writes_leave_groups.make old new parent name r f).cpus p)

  found_child : (o : Option Group) → child_of old.tree parent name ≡ o → (g : Group) (new : KernelState) → FindsOr o old parent name (Ok g) new
      → child_of new.tree parent name ≡ Some g
  found_child (Some found) was g new f =
      let same : found ≡ g = let both : Ok found ≡ Ok g = sym f.0 in cc in
      ap (λ (k : KernelState). child_of k.tree parent name) f.1 ∙ was ∙ ap Some same
  found_child None was g new f = (writes_leave_groups.make old new parent name (Ok g) f).made.child

  found_states_own : (o : Option Group) (r : Result Group (OrMemory KernelFault)) (new : KernelState) (f : FindsOr o old parent name r new)
      → AllByRecursion Own (found_states o old parent name r new f)
  found_states_own (Some g) r new f = tt
  found_states_own None r new f = (found_own None r new f, tt)

  -- a write of its sets
  module _ (g : Group) (mems : Ids) where
    pub record OwnAt (k : KernelState) : Type 0 where
      pub own : Own k
      pub child : child_of k.tree parent name ≡ Some g

    cpus_own : (k next : KernelState) (r : Result (Unit {0}) KernelFault) → WritesCpus k g cpus r next → OwnAt k → OwnAt next
    cpus_own k next r w at = record {
      own = λ p. by r w p (same_group g p) refl;
      child = (writes_leave_groups.cpus k next g cpus r w).places.child parent name ∙ at.child;
    } where
      by : (answer : Result (Unit {0}) KernelFault) → WritesCpus k g cpus answer next → (p : Group) (b : Bool) → same_group g p ≡ b
          → (requested_cpus next.tree p ≡ requested_cpus old.tree p) ⊎ ((child_of next.tree parent name ≡ Some p) × (requested_cpus next.tree p ≡ cpus))
      by (Ok done) it p true same =
          let leaves = writes_leave_groups.cpus k next g cpus (Ok done) it in
          let is : g ≡ p = same_group-equal g p same in
          inr (leaves.places.child parent name ∙ at.child ∙ ap Some is, ap (requested_cpus next.tree) (sym is) ∙ leaves.own)
      by (Err fault) it p true same = same_tree k next (writes_leave_groups.cpus k next g cpus (Err fault) it).refused at.own p
      by answer it p false other = elim (at.own p) [
        | inl was ↦ inl ((writes_leave_groups.cpus k next g cpus answer it).others p other ∙ was)
        | inr was ↦ inr ((writes_leave_groups.cpus k next g cpus answer it).places.child parent name ∙ was.0, (writes_leave_groups.cpus k next g cpus answer it).others p other ∙ was.1)
      ]

    mems_own : (k next : KernelState) (r : Result (Unit {0}) KernelFault) → WritesMems k g mems r next → OwnAt k → OwnAt next
    mems_own k next r w at =
        let left = writes_leave_groups.mems k next g mems r w in
        record {
          own = λ p. elim (at.own p) [
            | inl was ↦ inl (left.cpus p ∙ was)
            | inr was ↦ inr (left.places.child parent name ∙ was.0, left.cpus p ∙ was.1)
          ];
          child = left.places.child parent name ∙ at.child;
        }

    sets_own : (k next : KernelState) (r : Result (Unit {0}) KernelFault) → WritesSets k g cpus mems r next → OwnAt k → OwnAt next
    sets_own k next r (inl (fault, refused, is)) at = cpus_own k next (Err fault) refused at
    sets_own k next r (inr (done, mid, first, second)) at = mems_own mid next r second (cpus_own k mid (Ok done) first at)

    set_states_own : (k next : KernelState) (r : Result (Unit {0}) KernelFault) (w : WritesSets k g cpus mems r next) → OwnAt k
        → AllByRecursion Own (set_states k g cpus mems r next w)
    set_states_own k next r (inl (fault, refused, is)) at = ((cpus_own k next (Err fault) refused at).own, tt)
    set_states_own k next r (inr (done, mid, first, second)) at =
        ((cpus_own k mid (Ok done) first at).own, ((sets_own k next r (inr (done, mid, first, second)) at).own, tt))

    at_once_own : (k next : KernelState) (e : OrMemory KernelFault) (w : AtOnce (WritesSets k g cpus mems) (Err e) next) → OwnAt k
        → AllByRecursion Own (set_states_at_once k g cpus mems (Err e) next w)
    at_once_own k next Memory none at = absurd none
    at_once_own k next (Fault fault) w at = set_states_own k next (Err fault) w at

    start_states_own : (k next : KernelState) (r : Result ℕ (OrMemory KernelFault)) (w : StartsIn k g cpus mems r next) → OwnAt k
        → AllByRecursion Own (start_states k g cpus mems r next w)
    start_states_own k next r (inl (fault, refused, is)) at = at_once_own k next fault refused at
    start_states_own k next r (inr (done, mid, writes, spawns)) at =
        all_append Own (set_states k g cpus mems (Ok done) mid writes) (next ∷ []) (set_states_own k mid (Ok done) writes at)
        (same_tree mid next (writes_keep_tree.spawn mid next g r spawns) (sets_own k mid (Ok done) writes at).own, tt)

  launch_states_own : (mems : Ids) (r : Result (Group × ℕ) (OrMemory KernelFault)) (new : KernelState) (l : Launches old parent name cpus mems r new)
      → AllByRecursion Own (launch_states old parent name cpus mems r new l)
  launch_states_own mems (Ok made) new (mid, finds, starts) =
      all_append Own (found_states (child_of old.tree parent name) old parent name (Ok made.0) mid finds) (start_states mid made.0 cpus mems (Ok made.1) new starts)
      (found_states_own (child_of old.tree parent name) (Ok made.0) mid finds)
      (start_states_own made.0 mems mid new (Ok made.1) starts
      (record { own = found_own (child_of old.tree parent name) (Ok made.0) mid finds; child = found_child (child_of old.tree parent name) refl made.0 mid finds }))
  launch_states_own mems (Err error) new (inl refused) = found_states_own (child_of old.tree parent name) (Err error) new refused
  launch_states_own mems (Err error) new (inr (g, mid, finds, starts)) =
      all_append Own (found_states (child_of old.tree parent name) old parent name (Ok g) mid finds) (start_states mid g cpus mems (Err error) new starts)
      (found_states_own (child_of old.tree parent name) (Ok g) mid finds)
      (start_states_own g mems mid new (Err error) starts
      (record { own = found_own (child_of old.tree parent name) (Ok g) mid finds; child = found_child (child_of old.tree parent name) refl g mid finds }))

pub places_write_own : PlacesWriteOwn
places_write_own cpus old id bundle config (Ok pid) new c =
    launch_states_own old.kernel old.parent id cpus c.asked.homes (Ok (c.group, pid)) new.kernel c.launched
places_write_own cpus old id bundle config (Err Memory) new (inl n) = launch_states_own old.kernel old.parent id cpus n.asked.homes (Err Memory) new.kernel n.refused
places_write_own cpus old id bundle config (Err Memory) new (inr same) = tt
places_write_own cpus old id bundle config (Err (Fault (Kernel NoPids))) new same = tt
places_write_own cpus old id bundle config (Err (Fault (Kernel fault))) new n =
    launch_states_own old.kernel old.parent id cpus n.asked.homes (Err (Fault fault)) new.kernel n.refused
places_write_own cpus old id bundle config (Err (Fault fault)) new same = tt

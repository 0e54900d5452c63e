-- What holds of a node with no container.
use Rattle.std.proofs.Common.{◌≡◌, inl, inr, ℕ, Bool, true, false, List, [], length, Option, Some, None, refl, sym, ap, ◌∙◌, subst, arith}
use Rattle.std.proofs.lemmas.Option.{none-some}
use Rattle.std.specs.Prelude.{is_some, Ok, codes}
use Rattle.std.specs.List.{AllByRecursion}
use Rattle.cpu_set.specs.Ids.{Ids}
use Rattle.cpuset_tree.specs.declared.Group.{Group}
use Rattle.cpuset_tree.specs.TreeState.{GroupEntry}
use Rattle.cpuset_tree.specs.Groups.{same_group, entry_of, has_group, root_of, child_of}
use Rattle.cpuset_tree.specs.GroupLemmas.{same_group-equal}
use Rattle.cpuset_tree.specs.TreeChanges.{new_entry}
use Rattle.cpuset_tree.specs.TreeLemmas.{root_is_there, found_is_child}
use Rattle.proctable.specs.declared.Process.{Process}
use Rattle.proctable.specs.TableState.{TableState}
use Rattle.proctable.specs.Processes.{process_among, process_of}
use Rattle.kernel_model.specs.KernelState.{KernelState}
use Rattle.kernel_model.specs.WellFormed.{IsWellFormed}
use Rattle.kernel_model.specs.Cases.{MakesGroup}
use Rattle.kernel_model.specs.Laws.{StepKeeps}
use Rattle.kernel_model.specs.KernelLemmas.{each_case_keeps, writes_leave_groups, writes_keep_processes}
use Rattle.machine.specs.Layout.{Layout}
use Rattle.node.specs.declared.phase.Phase.TheVariants.{Settled}
use Rattle.node.specs.NodeState.{ContainerState, NodeState}
use Rattle.node.specs.Owners.{owners_of}
use Rattle.node.specs.IsNode.{IsMachine, IsOfMachine, Holds, IsAsked, IsNode}
use Rattle.node.specs.Unused.{IsUnused}
use Rattle.node.specs.Launch.{FindsOr, FindsOrMakes}
use Rattle.node.specs.Machine.{FirstIsNode}
use Rattle.node.proofs.LaunchLemmas.{Stays}

pub root_there : (k : KernelState) (root : Group) → IsWellFormed k → root_of k.tree ≡ Some root → has_group k.tree root ≡ true
root_there k root well top = ap is_some (root_is_there k.tree root well.tree top).there

-- the name of the containers' parent
abbrev name : List ℕ
name = codes "numarun"

module _ (old new : KernelState) (unused : IsUnused old) (well : IsWellFormed old) (root : Group) (top : root_of old.tree ≡ Some root) where
  no_process : (q : ℕ) (p : Process) → process_of old.table q ≡ Some p → ⊥
  no_process q p e = none-some p (sym (ap (λ live. process_among live q) unused.processes) ∙ e)

  below_root : (p q : Group) (e : GroupEntry) → entry_of old.tree p ≡ Some e → e.parent ≡ Some q → root_of old.tree ≡ Some q
  below_root p q e at below = elim (unused.groups p e at) [ inl none ↦ absurd (none-some q (sym none ∙ below)) | inr free ↦ sym free.below ∙ below ]

  found : (g : Group) → child_of old.tree root name ≡ Some g → Holds old g []
  found g c =
      let child = found_is_child old.tree root name g well.tree c in
      record {
        kernel = well;
        home = elim (unused.groups g child.entry child.there) [
          | inl none ↦ absurd (none-some root (sym none ∙ child.below))
          | inr free ↦ record { entry = child.entry; root = root; there = child.there; top = top; below = child.below; name = child.named; free_cpus = free.cpus; free_mems = free.mems }
        ];
        shallow = λ p q e at below. inr (below_root p q e at below);
        distinct = tt;
        placed = tt;
        first = tt;
        owned = λ q p e. no_process q p e;
        safe = record { apart = tt; some = tt };
      }

  module _ (g : Group) (m : MakesGroup old root name (Ok g) new) where
    keeps : StepKeeps old new
    keeps = (each_case_keeps old new well).make root name (Ok g) m

    new_top : root_of new.tree ≡ root_of old.tree
    new_top = ap root_of m.1.does.added

    shallow_at : (p q : Group) (e : GroupEntry) → entry_of new.tree p ≡ Some e → e.parent ≡ Some q → (t : Bool) → same_group g p ≡ t → root_of new.tree ≡ Some q
    shallow_at p q e at below true t =
        let made = (writes_leave_groups.make old new root name (Ok g) m).made.there in
        let own : entry_of new.tree p ≡ Some (new_entry g (Some root) name) = subst (λ x. entry_of new.tree x ≡ Some (new_entry g (Some root) name)) (same_group-equal g p t) made in
        let same : new_entry g (Some root) name ≡ e = cc (own, at) in
        new_top ∙ top ∙ ap (λ (x : GroupEntry). x.parent) same ∙ below
    shallow_at p q e at below false t =
        new_top ∙ below_root p q e (sym ((writes_leave_groups.make old new root name (Ok g) m).made.others p t) ∙ at) below

    made : Holds new g []
    made = record {
      kernel = keeps.well_formed;
      home = record {
        entry = new_entry g (Some root) name;
        root = root;
        there = (writes_leave_groups.make old new root name (Ok g) m).made.there;
        top = new_top ∙ top;
        below = refl;
        name = refl;
        free_cpus = refl;
        free_mems = refl;
      };
      shallow = λ p q e at below. inr (shallow_at p q e at below (same_group g p) refl);
      distinct = tt;
      placed = tt;
      first = tt;
      owned = λ q p e. no_process q p (sym (ap (λ (t : TableState). process_of t q) (writes_keep_processes.make old new root name (Ok g) m).0) ∙ e);
      safe = record { apart = tt; some = tt };
    }

  opened_by : (o : Option Group) → child_of old.tree root name ≡ o → (g : Group) → FindsOr o old root name (Ok g) new → Stays old new g []
  opened_by (Some c) was g f =
      let same : c ≡ g = cc f.0 in
      subst (λ k. Stays old k g []) (sym f.1) (record { holds = found g (was ∙ ap Some same); machine = record { nodes = refl; present = refl; reserved = refl } })
  opened_by None was g f = record { holds = made g f; machine = (keeps g f).machine }

  opened : (g : Group) → FindsOrMakes old root name (Ok g) new → Stays old new g []
  opened g f = opened_by (child_of old.tree root name) refl g f

  pub first_node : (machine : Layout) → IsMachine machine → IsOfMachine old machine → (g : Group) (pool : Ids) (containers : List (List ℕ × ContainerState)) → containers ≡ []
      → FindsOrMakes old root name (Ok g) new
      → IsNode (record { kernel = new; machine = machine; parent = g; containers = containers; pool = pool; phase = Settled; ongoing = None; last = None })
  first_node machine layout fits g pool containers none f =
      let s = opened g f in
      let few : length containers ≡ 0 = ap length none in
      record {
        layout = layout;
        machine = record { present = s.machine.present ∙ fits.present; reserved = s.machine.reserved ∙ fits.reserved; nodes = s.machine.nodes ∙ fits.nodes };
        holds = subst (λ (cs : List (List ℕ × ContainerState)). Holds new g (owners_of cs)) (sym none) s.holds;
        few = omega (arith, few);
        asked = subst (λ (cs : List (List ℕ × ContainerState)). AllByRecursion (IsAsked machine) cs) (sym none) tt;
        stands = refl;
        proved = tt;
      }

pub first_is_node : FirstIsNode
first_is_node k m n well layout fits unused o =
    subst (λ (x : NodeState). IsNode x) (sym o.3) (first_node k n.kernel unused well o.0 o.1 m layout fits n.parent m.reserved [] refl o.2)

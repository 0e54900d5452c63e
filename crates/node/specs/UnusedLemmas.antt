-- A kernel on which nothing was done yet can be a node's.
use Rattle.std.proofs.Common.{◌≡◌, inl, ℕ, true, false, cond, List, [], Option, Some, None, Err, IfErr, codes, refl, sym, ap, subst, ◌∙◌, arith}
use Rattle.std.proofs.lemmas.Option.{none-some}
use Rattle.cpu_set.specs.Ids.{Ids}
use Rattle.cpuset_tree.specs.declared.Group.{Group}
use Rattle.cpuset_tree.specs.TreeState.{GroupEntry, TreeState}
use Rattle.cpuset_tree.specs.Groups.{same_group, entry_of, child_of, root_of}
use Rattle.cpuset_tree.specs.TreeAnswers.{make_refusal}
use Rattle.cpuset_tree.specs.TreeChanges.{new_entry, first_tree}
use Rattle.cpuset_tree.specs.TreeLemmas.{same_is_equal}
use Rattle.proctable.specs.TableState.{TableState}
use Rattle.faults.specs.declared.OrMemory.{OrMemory}
use Rattle.faults.specs.declared.OrMemory.TheVariants.{Memory}
use Rattle.kernel_model.specs.declared.KernelFault.{KernelFault}
use Rattle.kernel_model.specs.Trace.{MadeGroup}
use Rattle.kernel_model.specs.KernelState.{KernelState, IsFirstKernel}
use Rattle.kernel_model.specs.Cases.{MakesGroup, MakesGroupOf}
use Rattle.kernel_model.specs.CaseLemmas.{GrowingWrites-answers}
use Rattle.kernel_model.specs.Refusals as kernel
use Rattle.machine.specs.Layout.{Layout}
use Rattle.machine.specs.Present.{present}
use Rattle.machine.specs.Nodes.{nodes_of}
use Rattle.node.specs.Calls.{OpensNot}
use Rattle.node.specs.IsNode.{IsOfMachine}
use Rattle.node.specs.Launch.{FindsOr}
use Rattle.node.specs.Unused.{IsUnused}

-- a first kernel is one that no node has used yet
abbrev pub FirstIsUnused : Type 0
FirstIsUnused = (present reserved online nodes : Ids) (first_pid : ℕ) (k : KernelState) → IsFirstKernel present reserved online nodes first_pid k → IsUnused k

-- a first kernel is of the machine whose CPUs and nodes it has
abbrev pub FirstIsOfMachine : Type 0
FirstIsOfMachine = (m : Layout) (online : Ids) (first_pid : ℕ) (k : KernelState) → IsFirstKernel (present m) m.reserved online (nodes_of m) first_pid k → IsOfMachine k m

-- if none of its writes failed, an allocation failure is all that can stand against a node over it
abbrev pub FirstWantsMemory : Type 0
FirstWantsMemory =
    (present reserved online nodes : Ids) (first_pid : ℕ) (k : KernelState) (error : OrMemory KernelFault) (new : KernelState)
    → IsFirstKernel present reserved online nodes first_pid k → OpensNot k error new → new.failures ≡ 0 → error ≡ Memory

only_root : (root : Group) (online nodes : Ids) (g : Group) (e : GroupEntry) → entry_of (first_tree root online nodes) g ≡ Some e → e.parent ≡ None
only_root root online nodes g e =
    elim (same_group root g) as (λ b. cond b (Some (new_entry root None [])) None ≡ Some e → e.parent ≡ None) [
      | true ↦ λ at. let same : new_entry root None [] ≡ e = cc at in ap (λ (x : GroupEntry). x.parent) (sym same)
      | false ↦ λ at. absurd (none-some e at)
    ]

pub first_is_unused : FirstIsUnused
first_is_unused present reserved online nodes first_pid k h = record {
  processes = ap (λ (t : TableState). t.live) h.first_table;
  groups = λ g e at. inl (only_root h.first_tree.root online nodes g e (subst (λ (s : TreeState). entry_of s g ≡ Some e) h.first_tree.is at));
}

pub first_is_of_machine : FirstIsOfMachine
first_is_of_machine m online first_pid k h = record {
  present = h.all_present;
  reserved = h.some_reserved;
  nodes = ap (λ (s : TreeState). s.nodes) h.first_tree.is;
}

-- a group can be made below the root
free_below : (root : Group) (online nodes : Ids) (name : List ℕ) → root.serial ≡ 0 → make_refusal (first_tree root online nodes) root name ≡ None
free_below root online nodes name first =
    let itself : same_group root root ≡ true = (same_is_equal root root).1 refl in
    rw (itself, first) refl

pub first_wants_memory : FirstWantsMemory
first_wants_memory present reserved online nodes first_pid k error new h (root, top, finds) none =
    let own : Some h.first_tree.root ≡ Some root = subst (λ (s : TreeState). root_of s ≡ Some root) h.first_tree.is top in
    let same : h.first_tree.root ≡ root = cc own in
    let alone : child_of k.tree root (codes "numarun") ≡ None = rw h.first_tree.is refl in
    let free : kernel.make_refusal k root (codes "numarun") ≡ None =
    subst (λ (g : Group). kernel.make_refusal k g (codes "numarun") ≡ None) same (rw (h.first_tree.is, free_below h.first_tree.root online nodes (codes "numarun") h.first_tree.serial) refl) in
    let makes : MakesGroup k root (codes "numarun") (Err error) new = subst (λ (o : Option Group). FindsOr o k root (codes "numarun") (Err error) new) alone finds in
    GrowingWrites-answers (kernel.make_refusal k root (codes "numarun")) (MakesGroupOf k root (codes "numarun")) k (MadeGroup root (codes "numarun"))
    (λ r s. IfErr r (λ e. s.failures ≡ 0 → e ≡ Memory))
    (λ g s _ _. record {}) (λ _. refl) (λ zero. absurd (omega (arith, zero)))
    (λ fault _ against _. absurd (none-some fault (sym free ∙ against)))
    (Err error) new makes none

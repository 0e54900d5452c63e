-- A kernel that refused a node's group can be used again.
use Rattle.std.proofs.Common.{◌≡◌, ℕ, List, Option, Some, None, sym, ap, ◌∙◌, subst}
use Rattle.std.specs.Prelude.{◌⊎◌, Ok, Err}
use Rattle.faults.specs.declared.OrMemory.{OrMemory}
use Rattle.cpuset_tree.specs.declared.Group.{Group}
use Rattle.cpuset_tree.specs.TreeState.{GroupEntry, TreeState}
use Rattle.cpuset_tree.specs.Groups.{entry_of}
use Rattle.proctable.specs.TableState.{TableState}
use Rattle.kernel_model.specs.declared.KernelFault.{KernelFault}
use Rattle.kernel_model.specs.KernelState.{KernelState}
use Rattle.kernel_model.specs.WellFormed.{IsWellFormed}
use Rattle.kernel_model.specs.KernelLemmas.{writes_leave_groups, writes_keep_processes, each_case_keeps}
use Rattle.machine.specs.Layout.{Layout}
use Rattle.node.specs.Launch.{FindsOr}
use Rattle.node.specs.IsNode.{IsOfMachine}
use Rattle.node.specs.Unused.{IsUnused, IsFreeChild}
use Rattle.node.proofs.NodeLemmas.{still_of_machine}

module _ (old new : KernelState) (well : IsWellFormed old) (m : Layout) (of : IsOfMachine old m) (unused : IsUnused old) where
  still_unused : new.tree ≡ old.tree → new.table ≡ old.table → IsUnused new
  still_unused tree table = record {
    processes = ap (λ (t : TableState). t.live) table ∙ unused.processes;
    groups = subst (λ (t : TreeState). (g : Group) (e : GroupEntry) → entry_of t g ≡ Some e → (e.parent ≡ None) ⊎ IsFreeChild t e) (sym tree) unused.groups;
  }

  pub used_again : (o : Option Group) (parent : Group) (name : List ℕ) (error : OrMemory KernelFault) → FindsOr o old parent name (Err error) new
      → IsOfMachine new m × IsUnused new
  used_again (Some g) parent name error f = absurd (let is : Err error ≡ Ok g = f.0 in let no : ⊥ = cc is in no)
  used_again None parent name error f = (
    still_of_machine old new m of ((each_case_keeps old new well).make parent name (Err error) f).machine,
    still_unused (writes_leave_groups.make old new parent name (Err error) f).refused (writes_keep_processes.make old new parent name (Err error) f).0,
  )

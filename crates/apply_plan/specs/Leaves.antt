-- What a step leaves of the kernel beside the sets of its entries.
use Rattle.std.specs.Prelude.{◌≡◌, false}
use Rattle.std.specs.List.{AllByRecursion}
use Rattle.cpuset_tree.specs.declared.Group.{Group}
use Rattle.cpuset_tree.specs.Groups.{same_group, requested_cpus, requested_mems}
use Rattle.cpuset_tree.specs.TreeLaws.{StandAlike}
use Rattle.kernel_model.specs.KernelState.{KernelState}
use Rattle.apply_plan.specs.Targets.{Targets}

-- nothing else in the kernel changed. The processes, the CPUs and the nodes stay, and so do each group's place and its memory
-- nodes. Groups that are none of the entries' request the same CPUs.
pub record KeepsRest (h : Targets) (old new : KernelState) : Type 0 where
  pub table : new.table ≡ old.table
  pub present : new.present ≡ old.present
  pub reserved : new.reserved ≡ old.reserved
  pub online : new.tree.online ≡ old.tree.online
  pub nodes : new.tree.nodes ≡ old.tree.nodes
  pub alike : StandAlike old.tree new.tree
  pub mems : (g : Group) → requested_mems new.tree g ≡ requested_mems old.tree g
  pub others : (g : Group) → AllByRecursion (λ e. same_group e.group g ≡ false) h.entries → requested_cpus new.tree g ≡ requested_cpus old.tree g

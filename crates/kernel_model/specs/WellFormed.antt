-- Which values are kernels.
use Rattle.std.specs.Prelude.{◌≡◌, ◌≢◌, ℕ, true, Some}
use Rattle.std.specs.FinSet as set
use Rattle.cpuset_tree.specs.Groups.{has_group}
use Rattle.cpuset_tree.specs.TreeWellFormed as tree
use Rattle.proctable.specs.declared.Process.{Process}
use Rattle.proctable.specs.Processes.{process_of}
use Rattle.proctable.specs.TableWellFormed as table
use Rattle.kernel_model.specs.KernelState.{KernelState}

-- the groups are a tree, the processes a table, and each process is in a group that is there; some CPUs are reserved, which
-- are online, and only present CPUs are online
pub record IsWellFormed (k : KernelState) : Type 0 where
  pub tree : tree.IsWellFormed k.tree
  pub table : table.IsWellFormed k.table
  pub placed : (q : ℕ) (p : Process) → process_of k.table q ≡ Some p → has_group k.tree p.group ≡ true
  pub some_reserved : k.reserved ≢ set.empty
  pub reserved_online : set.is_subset k.reserved k.tree.online ≡ true
  pub online_present : set.is_subset k.tree.online k.present ≡ true

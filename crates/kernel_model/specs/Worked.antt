-- A small kernel to try the definitions on.
use Rattle.std.specs.Prelude.{ℕ, [], ◌∷◌, codes}
use Rattle.std.specs.FinSet as set
use Rattle.cpuset_tree.specs.declared.Group.{Group}
use Rattle.cpuset_tree.specs.TreeChanges.{first_tree, with_group}
use Rattle.proctable.specs.TableChanges.{first_table, with_process}
use Rattle.kernel_model.specs.KernelState.{KernelState}

-- a group kept under this number
abbrev pub numbered : ℕ → Group
numbered n = record { key = n; serial = n }

abbrev pub root : Group
root = numbered 0

abbrev pub all_containers : Group
all_containers = numbered 1

abbrev pub web : Group
web = numbered 2

-- CPUs 0 to 3 are online, of which 0 is reserved, and 4 is there too; the group of all containers is below the root, and below that
-- one container, in which process 2 is alive
abbrev pub small : KernelState
small =
    let at_boot = first_tree root (set.from_list (0 ∷ 1 ∷ 2 ∷ 3 ∷ [])) (set.from_list (0 ∷ [])) in
    let with_all = with_group at_boot all_containers root (codes "numarun") in
    record {
      tree = with_group with_all web all_containers (codes "web");
      table = with_process (first_table 2) web 2;
      present = set.from_list (0 ∷ 1 ∷ 2 ∷ 3 ∷ 4 ∷ []);
      reserved = set.from_list (0 ∷ []);
      failures = 0;
      trace = [];
    }

-- A small hand-over to try the definitions on: two containers that swap their CPUs.
use Rattle.std.specs.Prelude.{ℕ, List, [], ◌∷◌, true}
use Rattle.std.specs.FinSet as set
use Rattle.cpuset_tree.specs.declared.groups.Group.{Group}
use Rattle.cpuset_tree.specs.Worked.{web, batch, two_containers}
use Rattle.cpuset_tree.specs.TreeChanges.{with_cpus}
use Rattle.proctable.specs.declared.processes.Process.{Process}
use Rattle.kernel_model.specs.KernelState.{KernelState}
use Rattle.apply_plan.specs.declared.entry.Entry.{Entry}
use Rattle.apply_plan.specs.declared.scan.Write.{Write}
use Rattle.apply_plan.specs.Targets.{Targets}

-- the first process of a container's group
abbrev pub first_of_group : Group → ℕ → Process
first_of_group g pid = record { pid = pid; group = g; first = pid }

-- a kernel of CPUs 0 to 3, the first of which is reserved, with these processes, where the two containers request these CPUs
abbrev pub requesting : List Process → List ℕ → List ℕ → KernelState
requesting live of_web of_batch = record {
  tree = with_cpus (with_cpus two_containers web (set.from_list of_web)) batch (set.from_list of_batch);
  table = record { live = live; next_pid = 4 };
  present = set.from_list (0 ∷ 1 ∷ 2 ∷ 3 ∷ []);
  reserved = set.from_list (0 ∷ []);
  failures = 0;
  trace = [];
}

-- both containers live
abbrev pub both_live : List ℕ → List ℕ → KernelState
both_live of_web of_batch = requesting (first_of_group web 2 ∷ first_of_group batch 3 ∷ []) of_web of_batch

-- the first process of the first one has ended
abbrev pub one_lives : List ℕ → List ℕ → KernelState
one_lives of_web of_batch = requesting (first_of_group batch 3 ∷ []) of_web of_batch

-- a container of its own CPUs, and what it is to have
abbrev pub entry : Group → ℕ → List ℕ → Entry
entry g pid target = record { group = g; pid = pid; pinned = true; target = set.from_list target }

-- CPUs 1 and 2 for the first container and 3 for the second, where CPU 0 is reserved
abbrev pub swap : Targets
swap = record { entries = entry web 2 (1 ∷ 2 ∷ []) ∷ entry batch 3 (3 ∷ []) ∷ []; reserved = set.from_list (0 ∷ []) }

-- the group is to request these CPUs
abbrev pub write : Group → List ℕ → Write
write g cpus = record { group = g; cpus = set.from_list cpus }

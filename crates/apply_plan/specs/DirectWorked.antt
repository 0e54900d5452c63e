-- Small direct hand-overs to try the definitions on.
use Rattle.std.specs.Prelude.{ℕ, Bool, false, ◌&&◌, List, [], ◌∷◌, Option, Some, None}
use Rattle.std.specs.FinSet as set
use Rattle.cpu_set.specs.Ids.{Ids, is_same}
use Rattle.cpuset_tree.specs.Groups.{same_group}
use Rattle.cpuset_tree.specs.declared.groups.Group.{Group}
use Rattle.cpuset_tree.specs.Worked.{web, batch}
use Rattle.kernel_model.specs.KernelState.{KernelState}
use Rattle.apply_plan.specs.declared.entry.Entry.{Entry}
use Rattle.apply_plan.specs.declared.scan.Write.{Write}
use Rattle.apply_plan.specs.Directed.{Directed, Least}
use Rattle.apply_plan.specs.Worked.{both_live, entry}

-- the two containers, CPU 0 reserved, with these targets, each allowed CPUs 1 to 3
abbrev pub moving_to : List ℕ → List ℕ → Directed
moving_to of_web of_batch = record {
  targets = record { entries = entry web 2 of_web ∷ entry batch 3 of_batch ∷ []; reserved = set.from_list (0 ∷ []) };
  allowed = set.from_list (1 ∷ 2 ∷ 3 ∷ []) ∷ set.from_list (1 ∷ 2 ∷ 3 ∷ []) ∷ [];
}

-- the same, where the second one shares
abbrev pub beside_shared : List ℕ → List ℕ → Directed
beside_shared of_web of_batch = record {
  targets = record { entries = entry web 2 of_web ∷ record (entry batch 3 of_batch) { pinned = false } ∷ []; reserved = set.from_list (0 ∷ []) };
  allowed = [];
}

-- both live and request these, and CPU 3 is offline
abbrev pub third_offline : List ℕ → List ℕ → KernelState
third_offline of_web of_batch = record (both_live of_web of_batch) { tree = record (both_live of_web of_batch).tree { online = set.from_list (0 ∷ 1 ∷ 2 ∷ []) } }

-- all CPUs of a set, as if they were those of one core
abbrev pub whole : Least
whole s count = s

-- no CPUs, as if of each core one were lacking in the set
abbrev pub halved : Least
halved s count = set.from_list []

-- the write is one by which the group requests these CPUs
abbrev pub gives : Option Write → Group → List ℕ → Bool
gives None g cpus = false
gives (Some w) g cpus = same_group w.group g && is_same w.cpus (set.from_list cpus)

-- a set has these CPUs and no other
abbrev pub has_only : Ids → List ℕ → Bool
has_only s cpus = is_same s (set.from_list cpus)

-- the first of the two
abbrev pub first_of_two : List ℕ → Entry
first_of_two target = entry web 2 target

-- and the second
abbrev pub second_of_two : List ℕ → Entry
second_of_two target = entry batch 3 target

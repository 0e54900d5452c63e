-- The cores that a machine file lists, and what may be wrong with them.
-- From: the order is ours.
use Rattle.std.specs.Prelude.{ℕ, not, ◌&&◌, ◌||◌, ◌==◌, Bool, cond, List, [], ◌∷◌, length, take, map, fold, slice_index_or, Option, Some, None, option_map}
use Rattle.std.specs.List.{list_all, list_any}
use Rattle.std.specs.FinSet as set
use Rattle.faults.specs.First.{when, first_of, first_below}
use Rattle.serde_json.specs.Data.{Data}
use Rattle.cpu_set.specs.Ids.{Ids, is_empty}
use Rattle.cpu_set.specs.Least.{least_that, least_of}
use Rattle.cpu_set.specs.Members.{cpus}
use Rattle.machine.specs.declared.fault.MachineFault.{MachineFault}
use Rattle.machine.specs.declared.fault.MachineFault.TheVariants.{BadField, BadCore, NoCore}
use Rattle.machine.specs.declared.field.Field.TheVariants.{Cores}
use Rattle.machine.specs.KindFaults.{array_fault}
use Rattle.machine.specs.Listed.{is_list, cpus_named}
use Rattle.machine.specs.Members.{items_of}
use Rattle.machine.specs.Present.{union_of}

-- the lowest CPU of the core that has this CPU; where none has it, it is a core of its own
unfoldable pub lowest_in : List Ids → ℕ → ℕ
lowest_in cores cpu = fold (λ lowest core. cond (set.contains core cpu) (least_of core) lowest) cpu cores

-- the lowest CPU of each CPU's core, as a list of cores says
abbrev pub lowest_of : List Ids → List ℕ
lowest_of cores = map (lowest_in cores) cpus

-- how many CPUs core 0 has; where none is listed, each CPU is a core of its own
abbrev pub size_of : List Ids → ℕ
size_of [] = 1
size_of (core ∷ cores) = set.len core

-- so many CPUs, of those that are left, and all of them reserved, or none
abbrev pub is_within : Ids → ℕ → Ids → Ids → Bool
is_within reserved size left core =
    (set.len core == size)
    && (set.is_subset core (set.difference left reserved) || set.is_subset core (set.intersection left reserved))

-- these may be the CPUs of a core: one at least, and as many as core 0 has. Earlier cores left them. All of them are reserved
-- or none, and they are of one node.
abbrev pub is_core : List Ids → Ids → ℕ → Ids → Ids → Bool
is_core nodes reserved size left core =
    not (is_empty core) && is_within reserved size left core && list_any (λ node. set.is_subset core node) nodes

-- core i, where these CPUs are left by the cores before it
unfoldable pub core_fault : List Ids → Ids → ℕ → Ids → ℕ → Ids → Option MachineFault
core_fault nodes reserved size left i core = when (not (is_core nodes reserved size left core)) (BadCore i)

-- the CPUs that these cores leave
abbrev pub left_by : List Ids → List Ids → Ids
left_by nodes cores = set.difference (union_of nodes) (union_of cores)

-- the first core that is at fault
unfoldable pub first_core_fault : List Ids → Ids → List Ids → Option MachineFault
first_core_fault nodes reserved cores =
    first_below (length cores)
    (λ i. core_fault nodes reserved (size_of cores) (left_by nodes (take i cores)) i (slice_index_or cores i set.empty))

-- the least present CPU of no core
unfoldable pub left_fault : List Ids → List Ids → Option MachineFault
left_fault nodes cores =
    option_map NoCore (least_that (λ cpu. set.contains (union_of nodes) cpu && not (set.contains (union_of cores) cpu)))

-- one of the items is no list of CPUs
abbrev pub lists_fault : List Data → Option MachineFault
lists_fault items = when (not (list_all is_list items)) (BadField Cores)

-- the first thing that is wrong with listed cores; if there is no such member, there is none
unfoldable pub cores_fault : List Ids → Ids → Option Data → Option MachineFault
cores_fault nodes reserved None = None
cores_fault nodes reserved (Some d) = first_of (
    array_fault Cores (Some d)
    ∷ lists_fault (items_of d)
    ∷ first_core_fault nodes reserved (map cpus_named (items_of d))
    ∷ left_fault nodes (map cpus_named (items_of d))
    ∷ [])

-- Physical cores: CPUs of one core are hyperthreads (SMT siblings) of one another. A core is named by its lowest CPU.
use Rattle.std.specs.Prelude.{◌≡◌, ℕ, ◌≤◌, Bool, false, ◌==◌, ◌&&◌, length, slice_index_or}
use Rattle.std.specs.FinSet as set
use Rattle.cpu_set.specs.Ids.{Ids}
use Rattle.cpu_set.specs.Those.{those}
use Rattle.cpu_set.specs.declared.TheConstants.{CPU_LIMIT}
use Rattle.machine.specs.Layout.{Layout}
use Rattle.machine.specs.Nodes.{IsOfNode}
use Rattle.machine.specs.Present.{present, IsPresent}

-- the core of a CPU, by its lowest CPU; a number of no core stands for itself
abbrev pub core_of : Layout → ℕ → ℕ
core_of m cpu = slice_index_or m.lowest cpu cpu

-- the CPUs of the core with this lowest CPU
unfoldable pub cpus_of_core : Layout → ℕ → Ids
cpus_of_core m core = set.retain (present m) (λ cpu. core_of m cpu == core)

-- a set has all CPUs of the core with this lowest CPU
abbrev pub is_core_in : Layout → Ids → ℕ → Bool
is_core_in m cpus core = (core_of m core == core) && set.is_subset (cpus_of_core m core) cpus

-- the lowest CPUs of the cores of which a set has all CPUs
unfoldable pub cores_in : Layout → Ids → Ids
cores_in m cpus = set.retain cpus (is_core_in m cpus)

-- the CPUs of the cores with these lowest CPUs
unfoldable pub cpus_of_cores : Layout → Ids → Ids
cpus_of_cores m cores = those (λ cpu. set.contains cores (core_of m cpu)) CPU_LIMIT

-- the CPUs of those cores of which a set has all CPUs
unfoldable pub whole_in : Layout → Ids → Ids
whole_in m cpus = set.retain cpus (λ cpu. set.is_subset (cpus_of_core m (core_of m cpu)) cpus)

-- whole: of each core a set has all CPUs or none
abbrev pub IsWhole : Layout → Ids → Type 0
IsWhole m cpus =
    (a b : ℕ) → IsPresent m a → IsPresent m b → core_of m a ≡ core_of m b → set.contains cpus a ≡ set.contains cpus b

-- what holds of the cores of each machine: each is within a node, and each has as many CPUs as each other. All CPUs of a core
-- are reserved, or none. A number that is no CPU of the machine is of no core.
pub record AreCores (m : Layout) : Type 0 where
  pub room : length m.lowest ≡ CPU_LIMIT
  pub lowest : (cpu : ℕ) → core_of m cpu ≤ cpu
  pub is_present : (cpu : ℕ) → IsPresent m cpu → IsPresent m (core_of m cpu)
  pub same : (cpu : ℕ) → IsPresent m cpu → core_of m (core_of m cpu) ≡ core_of m cpu
  pub absent : (cpu : ℕ) → set.contains (present m) cpu ≡ false → core_of m cpu ≡ cpu
  pub one_node : (cpu i : ℕ) → IsOfNode m cpu i → IsOfNode m (core_of m cpu) i
  pub reserved : (cpu : ℕ) → IsPresent m cpu → set.contains m.reserved (core_of m cpu) ≡ set.contains m.reserved cpu
  pub some : 1 ≤ m.threads
  pub threads : (cpu : ℕ) → IsPresent m cpu → set.len (cpus_of_core m (core_of m cpu)) ≡ m.threads

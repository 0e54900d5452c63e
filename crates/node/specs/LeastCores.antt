-- Which CPUs a container gets of its places: those of the first cores that are places as a whole.
use Rattle.std.specs.Prelude.{ℕ, ◌&&◌, nat_lt}
use Rattle.std.specs.Int.{div_ceil}
use Rattle.std.specs.FinSet as set
use Rattle.cpu_set.specs.Ids.{Ids}
use Rattle.cpu_set.specs.Those.{those}
use Rattle.cpu_set.specs.declared.TheConstants.{CPU_LIMIT}
use Rattle.machine.specs.Cores.{cores_in, cpus_of_cores}
use Rattle.machine.specs.Layout.{Layout}
use Rattle.apply_plan.specs.Directed.{Least}

-- how many members of a set are below a number
abbrev pub count_below : Ids → ℕ → ℕ
count_below s n = set.len (those (set.contains s) n)

-- the first members of a set, so many: those of which fewer are below
unfoldable pub first_of : ℕ → Ids → Ids
first_of count s = those (λ q. set.contains s q && nat_lt (count_below s q) count) CPU_LIMIT

-- the CPUs of the first cores that a set has as a whole, of as many as make so many CPUs up
abbrev pub least_cores : Layout → Least
least_cores m s count = cpus_of_cores m (first_of (div_ceil count m.threads) (cores_in m s))

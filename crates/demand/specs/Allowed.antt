-- Which CPUs a container may get.
use Rattle.std.specs.Prelude.{ℕ, Bool, not, ◌&&◌, ◌||◌, nat_lt}
use Rattle.std.specs.FinSet as set
use Rattle.cpu_set.specs.Ids.{Ids, is_empty}
use Rattle.cpu_set.specs.Those.{those}
use Rattle.cpu_set.specs.declared.TheConstants.{CPU_LIMIT}
use Rattle.config_json.specs.SectionOf.{Section}
use Rattle.machine.specs.Cores.{whole_in}
use Rattle.machine.specs.Layout.{Layout}
use Rattle.machine.specs.Present.{present}
use Rattle.machine.specs.Weight.{weight}
use Rattle.demand.specs.Named.{named}
use Rattle.demand.specs.Homes.{homes_of}

-- a CPU that is present, among the named ones where any is named, and not reserved
abbrev pub is_free : Layout → Ids → ℕ → Bool
is_free m cpus c =
    set.contains (present m) c && (is_empty cpus || set.contains cpus c) && not (set.contains m.reserved c)

-- one with a way to a home
abbrev pub is_allowed : Layout → Ids → Ids → ℕ → Bool
is_allowed m cpus homes c = is_free m cpus c && nat_lt (weight m homes c) 255

-- the CPUs of cores that have such CPUs alone
unfoldable pub allowed_by : Layout → Ids → Ids → Ids
allowed_by m cpus homes = whole_in m (those (is_allowed m cpus homes) CPU_LIMIT)

-- the CPUs that a section allows
abbrev pub allowed_of : Layout → Section → Ids
allowed_of m s = allowed_by m (named s.cpus) (homes_of m s.mems)

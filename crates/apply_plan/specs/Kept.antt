-- What a container keeps while it lets go of CPUs that it is not to have.
use Rattle.std.specs.Prelude.{if◌then◌else◌}
use Rattle.std.specs.FinSet as set
use Rattle.cpu_set.specs.Ids.{Ids, is_empty}

-- the CPUs of a set that are in the target or reserved
abbrev pub within : Ids → Ids → Ids → Ids
within reserved target cpus = set.intersection cpus (set.union target reserved)

-- what a container keeps on the way to its target: what is in the target or reserved, or the reserved CPUs if that is nothing
abbrev pub kept : Ids → Ids → Ids → Ids
kept reserved target cpus = if is_empty (within reserved target cpus) then reserved else within reserved target cpus

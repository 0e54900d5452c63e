-- What may be wrong with the reserved CPUs and with those that are offline at boot.
use Rattle.std.specs.Prelude.{◌||◌, not, [], ◌∷◌, Option, Some, None}
use Rattle.std.specs.FinSet as set
use Rattle.faults.specs.First.{when, first_of}
use Rattle.serde_json.specs.Data.{Data}
use Rattle.cpu_set.specs.Ids.{Ids, is_empty}
use Rattle.machine.specs.declared.fault.MachineFault.{MachineFault}
use Rattle.machine.specs.declared.fault.MachineFault.TheVariants.{BadField, BadReserved, BadOffline}
use Rattle.machine.specs.declared.field.Field.{Field}
use Rattle.machine.specs.declared.field.Field.TheVariants.{Reserved, Offline}
use Rattle.machine.specs.KindFaults.{list_fault}
use Rattle.machine.specs.Listed.{listed_in}

-- a member is absent, or no list of CPUs
abbrev pub required_fault : Field → Option Data → Option MachineFault
required_fault field None = Some (BadField field)
required_fault field (Some d) = list_fault field d

-- a member is there, and no list of CPUs
abbrev pub optional_fault : Field → Option Data → Option MachineFault
optional_fault field None = None
optional_fault field (Some d) = list_fault field d

-- no CPU is reserved, or one that is not present
unfoldable pub reserved_fault : Option Data → Ids → Option MachineFault
reserved_fault found present = first_of (
    required_fault Reserved found
    ∷ when (is_empty (listed_in found) || not (set.is_subset (listed_in found) present)) BadReserved
    ∷ [])

-- a CPU is offline that is not present, or that is reserved
unfoldable pub offline_fault : Option Data → Ids → Ids → Option MachineFault
offline_fault found present reserved = first_of (
    optional_fault Offline found
    ∷ when (not (set.is_subset (listed_in found) (set.difference present reserved))) BadOffline
    ∷ [])

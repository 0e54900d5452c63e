-- What may be wrong with a member's kind.
use Rattle.std.specs.Prelude.{◌≡◌, ℕ, ◌<◌, List, length, slice_index_or, Option, None, not, is_some, option_and_then}
use Rattle.faults.specs.First.{when}
use Rattle.serde_json.specs.Data.{Data, null}
use Rattle.serde_json.specs.Find.{as_array}
use Rattle.machine.specs.declared.fault.MachineFault.{MachineFault}
use Rattle.machine.specs.declared.fault.MachineFault.TheVariants.{BadField}
use Rattle.machine.specs.declared.field.Field.{Field}
use Rattle.machine.specs.Listed.{is_list}

-- a member is absent, or no array
abbrev pub array_fault : Field → Option Data → Option MachineFault
array_fault field found = when (not (is_some (option_and_then as_array found))) (BadField field)

-- a value is no list of CPUs
abbrev pub list_fault : Field → Data → Option MachineFault
list_fault field d = when (not (is_list d)) (BadField field)

-- each of the values is a list of CPUs
abbrev pub AreLists : Field → List Data → Type 0
AreLists field ds = (i : ℕ) → i < length ds → list_fault field (slice_index_or ds i null) ≡ None

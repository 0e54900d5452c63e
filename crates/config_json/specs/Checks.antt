-- The two checks that a member may fail: it is required and absent, or it is of another kind than its reader takes.
use Rattle.std.specs.Prelude.{ℤ, Option, Some, None, is_some, not, option_and_then}
use Rattle.faults.specs.First.{when}
use Rattle.serde_json.specs.Data.{Data}
use Rattle.serde_json.specs.Find.{as_number, as_i64}
use Rattle.config_json.specs.declared.fault.ConfigFault.{ConfigFault}
use Rattle.config_json.specs.declared.fault.ConfigFault.TheVariants.{Missing, BadField}
use Rattle.config_json.specs.declared.field.Field.{Field}

-- the number as a signed one of 64 bits, where it is written as a whole number that fits
abbrev pub signed_of : Data → Option ℤ
signed_of d = option_and_then as_i64 (as_number d)

-- a required member is absent
abbrev pub missing_fault : Field → Option Data → Option ConfigFault
missing_fault field None = Some (Missing field)
missing_fault field (Some d) = None

-- a value is not of the kind that the reader takes
abbrev pub other_kind : {A : Type 0} → Field → (Data → Option A) → Data → Option ConfigFault
other_kind field reader d = when (not (is_some (reader d))) (BadField field)

-- a member is there, and is not of the kind that the reader takes
abbrev pub kind_fault : {A : Type 0} → Field → (Data → Option A) → Option Data → Option ConfigFault
kind_fault field reader None = None
kind_fault field reader (Some d) = other_kind field reader d

-- What the bytes of a config say to pinning, or the first thing that is wrong with them.
-- From: OCI Runtime Specification 1.0.2, config.md and config-linux.md; the order is ours.
use Rattle.std.specs.Prelude.{ℕ, List, [], ◌∷◌, length, nat_lt, Option, Some, None, Result, Err, cond}
use Rattle.faults.specs.First.{when, first_of, unless}
use Rattle.serde_json.specs.Data.{Data}
use Rattle.config_json.specs.declared.config.TheConstants.{MAX_BYTES}
use Rattle.config_json.specs.declared.config.Config.{Config}
use Rattle.config_json.specs.declared.fault.ConfigFault.{ConfigFault}
use Rattle.config_json.specs.declared.fault.ConfigFault.TheVariants.{TooLong, NotJson}
use Rattle.json_text.specs.JsonOf.{json_of, text_fault}
use Rattle.config_json.specs.ValueFault.{value_fault}
use Rattle.config_json.specs.SectionOf.{section_of}
use Rattle.config_json.specs.IsRunnable.{is_runnable}

-- what a JSON value says
abbrev pub said_by : Data → Config
said_by d = record { runnable = is_runnable d; cpu = section_of d }

-- what a text says that may be no JSON
abbrev pub answer_to : Option Data → Result Config ConfigFault
answer_to None = Err NotJson
answer_to (Some d) = unless (value_fault d) (said_by d)

-- what the bytes of a config say, or their first fault
unfoldable pub config_of : List ℕ → Result Config ConfigFault
config_of bytes = cond (nat_lt MAX_BYTES (length bytes)) (Err TooLong) (answer_to (json_of bytes))

-- what shows in the bytes before they are read as JSON: there are too many or none, or they are not UTF-8
abbrev pub bytes_fault : List ℕ → Option ConfigFault
bytes_fault bytes = first_of (when (nat_lt MAX_BYTES (length bytes)) TooLong ∷ text_fault NotJson bytes ∷ [])

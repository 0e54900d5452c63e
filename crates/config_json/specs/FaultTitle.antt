-- What is printed as the cause of a refusal of a config: its number and its name.
use Rattle.std.specs.Prelude.{ℕ, List, codes}
use Rattle.config_json.specs.declared.fault.ConfigFault.{ConfigFault}
use Rattle.config_json.specs.declared.fault.ConfigFault.TheVariants.{TooLong, NotJson, NotObject, Missing, BadVersion, BadField}

abbrev pub config_title : ConfigFault → List ℕ
config_title TooLong = codes "E55 TooLong"
config_title NotJson = codes "E56 NotJson"
config_title NotObject = codes "E57 NotObject"
config_title (Missing field) = codes "E58 Missing"
config_title BadVersion = codes "E59 BadVersion"
config_title (BadField field) = codes "E60 BadField"

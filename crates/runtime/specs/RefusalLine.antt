-- The line that a refusal is printed as: `refused`, its number, its name, and each argument after a space.
use Rattle.std.specs.Prelude.{ℕ, List, [], ◌++◌, codes}
use Rattle.byte_output.specs.Arguments.{number_text, word_text}
use Rattle.cpu_list.specs.FaultTitle.{list_code}
use Rattle.cpu_list.specs.declared.fault.ListError.{ListError}
use Rattle.config_json.specs.PathOf.{path_of}
use Rattle.config_json.specs.declared.fault.ConfigFault.{ConfigFault}
use Rattle.config_json.specs.declared.fault.ConfigFault.TheVariants as config
use Rattle.demand.specs.declared.fault.DemandFault.{DemandFault}
use Rattle.demand.specs.declared.fault.DemandFault.TheVariants as demand
use Rattle.faults.specs.FaultTitle.{memory_title}
use Rattle.node.specs.FaultTitle.{node_title}
use Rattle.node.specs.declared.fault.NodeFault.{NodeFault}
use Rattle.node.specs.declared.fault.NodeFault.TheVariants as node
use Rattle.runtime.specs.declared.refusal.Refusal.{Refusal}
use Rattle.runtime.specs.declared.refusal.Refusal.TheVariants as refusal

-- the number of what is wrong with a list, and where it is
abbrev pub list_argument : ListError → List ℕ
list_argument error = word_text (list_code error.kind) ++ number_text error.at

-- what a config's refusal names: the member's path
abbrev pub config_arguments : ConfigFault → List ℕ
config_arguments config.TooLong = []
config_arguments config.NotJson = []
config_arguments config.NotObject = []
config_arguments (config.Missing field) = word_text (path_of field)
config_arguments config.BadVersion = []
config_arguments (config.BadField field) = word_text (path_of field)

-- what a refusal of a demand names: what is wrong with the list, or the CPU or node
abbrev pub demand_arguments : DemandFault → List ℕ
demand_arguments (demand.BadCpus error) = list_argument error
demand_arguments (demand.NoSuchCpu cpu) = number_text cpu
demand_arguments (demand.BadMems error) = list_argument error
demand_arguments (demand.NoSuchNode node) = number_text node
demand_arguments demand.QuotaTooLarge = []
demand_arguments demand.NothingAllowed = []

-- what a refusal of a call names
abbrev pub node_arguments : NodeFault → List ℕ
node_arguments (node.Config fault) = config_arguments fault
node_arguments (node.Demand fault) = demand_arguments fault
node_arguments (node.NotFree cpu) = number_text cpu
node_arguments fault = []

-- the number and the name of a refusal
abbrev pub title_of : Refusal → List ℕ
title_of refusal.Memory = memory_title
title_of (refusal.Node fault) = node_title fault
title_of (refusal.BadSet error) = codes "E102 BadSet"
title_of refusal.NoCpus = codes "E103 NoCpus"
title_of refusal.NoStranger = codes "E105 NoStranger"
title_of refusal.NoBundle = codes "E111 NoBundle"

-- what stands behind the name of a refusal
abbrev pub arguments_of : Refusal → List ℕ
arguments_of (refusal.Node fault) = node_arguments fault
arguments_of (refusal.BadSet error) = list_argument error
arguments_of why = []

-- the line that a refused command is answered by
abbrev pub refusal_line : Refusal → List ℕ
refusal_line why = (codes "refused " ++ title_of why) ++ (arguments_of why ++ codes "\n")

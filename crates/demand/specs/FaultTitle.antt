-- What is printed as the cause of a refusal of what a container asks for: its number and its name.
use Rattle.std.specs.Prelude.{ℕ, List, codes}
use Rattle.demand.specs.declared.fault.DemandFault.{DemandFault}
use Rattle.demand.specs.declared.fault.DemandFault.TheVariants.{BadCpus, NoSuchCpu, BadMems, NoSuchNode, QuotaTooLarge, NothingAllowed}

abbrev pub demand_title : DemandFault → List ℕ
demand_title (BadCpus error) = codes "E62 BadCpus"
demand_title (NoSuchCpu cpu) = codes "E63 NoSuchCpu"
demand_title (BadMems error) = codes "E64 BadMems"
demand_title (NoSuchNode node) = codes "E65 NoSuchNode"
demand_title QuotaTooLarge = codes "E66 QuotaTooLarge"
demand_title NothingAllowed = codes "E67 NothingAllowed"

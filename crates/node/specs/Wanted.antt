-- What a container's config says and asks for.
use Rattle.std.specs.Prelude.{◌≡◌, ℕ, Bool, List, Some, None, Result, Ok, Err}
use Rattle.faults.specs.declared.OrMemory.{OrMemory}
use Rattle.faults.specs.declared.OrMemory.TheVariants as or
use Rattle.machine.specs.Layout.{Layout}
use Rattle.config_json.specs.declared.Config.{Config as Said}
use Rattle.config_json.specs.declared.fault.ConfigFault.{ConfigFault}
use Rattle.config_json.specs.ConfigOf.{config_of, bytes_fault}
use Rattle.demand.specs.declared.Demand.{Demand as Asked}
use Rattle.demand.specs.DemandFaultOf.{demand_fault}
use Rattle.demand.specs.IsDemand.{IsDemand}
use Rattle.demand.specs.FitsMachine.{FitsMachine}
use Rattle.node.specs.declared.fault.NodeFault.{NodeFault}
use Rattle.node.specs.declared.fault.NodeFault.TheVariants.{Config, Demand}

-- the config is read, and the machine can give what it asks for
pub record Says (m : Layout) (config : List ℕ) (said : Said) (asked : Asked) : Type 0 where
  pub said_so : config_of config ≡ Ok said
  pub asked_so : IsDemand m said.cpu asked
  pub fits : FitsMachine m asked

-- the first thing that is wrong with a config on a machine
abbrev pub ConfigCause : Layout → List ℕ → NodeFault → Type 0
ConfigCause m config (Config fault) = config_of config ≡ Err fault
ConfigCause m config (Demand fault) = (said : Said) × (config_of config ≡ Ok said) × (demand_fault m said.cpu ≡ Some fault)
ConfigCause m config fault = ⊥

-- what a config that was read asks for
abbrev pub Asks : Layout → Said → Result Asked NodeFault → Type 0
Asks m said (Ok asked) = IsDemand m said.cpu asked × FitsMachine m asked
Asks m said (Err (Demand fault)) = demand_fault m said.cpu ≡ Some fault
Asks m said (Err fault) = ⊥

-- what a container asks for, and whether it can be started, given how its config was read; an allocation failure comes of the
-- reading alone
abbrev pub Wants : Layout → Result Said (OrMemory ConfigFault) → Result (Bool × Asked) (OrMemory NodeFault) → Type 0
Wants m (Ok said) (Ok wanted) = (wanted.0 ≡ said.runnable) × Asks m said (Ok wanted.1)
Wants m (Ok said) (Err (or.Fault fault)) = Asks m said (Err fault)
Wants m (Ok said) (Err or.Memory) = ⊥
Wants m (Err or.Memory) answer = answer ≡ Err or.Memory
Wants m (Err (or.Fault fault)) answer = answer ≡ Err (or.Fault (Config fault))

-- the same of a config's bytes: an allocation failure is no answer if a fault shows in them
abbrev pub Reads : Layout → List ℕ → Result (Bool × Asked) (OrMemory NodeFault) → Type 0
Reads m config (Ok wanted) = (said : Said) × (wanted.0 ≡ said.runnable) × Says m config said wanted.1 × (bytes_fault config ≡ None)
Reads m config (Err or.Memory) = bytes_fault config ≡ None
Reads m config (Err (or.Fault fault)) = ConfigCause m config fault

-- What is printed as the cause of a refusal of a call of the node: its number and its name.
use Rattle.std.specs.Prelude.{ℕ, List, codes}
use Rattle.node.specs.declared.fault.NodeFault.{NodeFault}
use Rattle.node.specs.declared.fault.NodeFault.TheVariants.{Busy, BadId, IdInUse, TooManyContainers, NoContainer, NotCreated, NotRunnable, BadSignal, NotLive, NotStopped, NoHandover, NoAnswer, NotFree, Config, Demand, Kernel}
use Rattle.config_json.specs.FaultTitle.{config_title}
use Rattle.demand.specs.FaultTitle.{demand_title}
use Rattle.kernel_model.specs.FaultTitle.{kernel_title}

abbrev pub node_title : NodeFault → List ℕ
node_title Busy = codes "E90 Busy"
node_title BadId = codes "E91 BadId"
node_title IdInUse = codes "E92 IdInUse"
node_title TooManyContainers = codes "E93 TooManyContainers"
node_title NoContainer = codes "E94 NoContainer"
node_title NotCreated = codes "E95 NotCreated"
node_title NotRunnable = codes "E96 NotRunnable"
node_title BadSignal = codes "E97 BadSignal"
node_title NotLive = codes "E98 NotLive"
node_title NotStopped = codes "E99 NotStopped"
node_title NoHandover = codes "E100 NoHandover"
node_title NoAnswer = codes "E101 NoAnswer"
node_title (NotFree cpu) = codes "E104 NotFree"
node_title (Config fault) = config_title fault
node_title (Demand fault) = demand_title fault
node_title (Kernel fault) = kernel_title fault

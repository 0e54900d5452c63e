-- The state of a container as JSON.
-- From: OCI Runtime Specification 1.0.2, runtime.md, State and Query State.
use Rattle.std.specs.Prelude.{◌≡◌, ℕ, true, List, Some, None, is_some, Result, Ok, Err, codes, String, string_bytes}
use Rattle.std.specs.declared.alloc.Global.{Global}
use Rattle.serde_json.specs.Data.{Data, number, unsigned, string, object, member, no_members}
use Rattle.serde_json.specs.Written.{compact_text}
use Rattle.faults.specs.declared.OrMemory.{OrMemory}
use Rattle.faults.specs.declared.OrMemory.TheVariants.{Memory, Fault}
use Rattle.kernel_model.specs.KernelState.{KernelState}
use Rattle.node.specs.declared.container.Status.{Status}
use Rattle.node.specs.declared.container.Status.TheVariants.{Created, Running, Stopped}
use Rattle.node.specs.declared.fault.NodeFault.{NodeFault}
use Rattle.node.specs.declared.fault.NodeFault.TheVariants.{NoContainer}
use Rattle.node.specs.NodeState.{ContainerState, NodeState, container_of}
use Rattle.node.specs.Status.{status_of}

-- a status as a word
abbrev pub status_text : Status → List ℕ
status_text Created = codes "created"
status_text Running = codes "running"
status_text Stopped = codes "stopped"

-- the state of a live container, and of one that is stopped, which shows no pid
abbrev pub live_data : List ℕ → List ℕ → ℕ → List ℕ → Data
live_data id bundle pid status =
    object (member (codes "bundle") (string bundle) (member (codes "id") (string id) (member (codes "ociVersion") (string (codes "1.0.2"))
    (member (codes "pid") (number (unsigned pid)) (member (codes "status") (string status) no_members)))))

abbrev pub stopped_data : List ℕ → List ℕ → List ℕ → Data
stopped_data id bundle status =
    object (member (codes "bundle") (string bundle) (member (codes "id") (string id) (member (codes "ociVersion") (string (codes "1.0.2"))
    (member (codes "status") (string status) no_members))))

abbrev pub state_by : Status → List ℕ → ContainerState → Data
state_by Stopped id c = stopped_data id c.bundle (codes "stopped")
state_by status id c = live_data id c.bundle c.pid (status_text status)

abbrev pub state_of : KernelState → List ℕ → ContainerState → Data
state_of k id c = state_by (status_of k c) id c

-- what `state` answers: the compact text of it
abbrev pub Shows : NodeState → List ℕ → Result (String Global) (OrMemory NodeFault) → Type 0
Shows n id (Ok text) = (c : ContainerState) × (container_of n id ≡ Some c) × (string_bytes text ≡ compact_text (state_of n.kernel id c))
Shows n id (Err Memory) = is_some (container_of n id) ≡ true
Shows n id (Err (Fault fault)) = (fault ≡ NoContainer) × (container_of n id ≡ None)

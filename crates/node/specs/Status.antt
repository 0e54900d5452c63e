-- A container's status.
-- From: OCI Runtime Specification 1.0.2, runtime.md, State.
use Rattle.std.specs.Prelude.{Bool, cond}
use Rattle.proctable.specs.Processes.{is_alive}
use Rattle.kernel_model.specs.KernelState.{KernelState}
use Rattle.node.specs.declared.container.Status.{Status}
use Rattle.node.specs.declared.container.Status.TheVariants.{Created, Running, Stopped}
use Rattle.node.specs.NodeState.{ContainerState}

-- its first process is alive
abbrev pub is_live : KernelState → ContainerState → Bool
is_live k c = is_alive k.table c.pid

-- a live container is created, or running once it was started; else it is stopped
abbrev pub status_by : Bool → Bool → Status
status_by live started = cond live (cond started Running Created) Stopped

-- a container is live while its first process is: created, or running once it was started; else it is stopped
abbrev pub status_of : KernelState → ContainerState → Status
status_of k c = status_by (is_live k c) c.started

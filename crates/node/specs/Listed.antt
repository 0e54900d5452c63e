-- The containers with their statuses, in the order in which they were created.
-- From: OCI Runtime Specification 1.0.2, runtime.md, Query State.
use Rattle.std.specs.Prelude.{◌≡◌, ℕ, Bool, true, false, List, Option, Some, None, map, refl}
use Rattle.std.specs.Coded.{Coded, code_by, coded×, coded_ℕ, coded_bool, coded_list, coded_option}
use Rattle.kernel_model.specs.KernelState.{KernelState}
use Rattle.node.specs.declared.container.Status.{Status}
use Rattle.node.specs.declared.container.Status.TheVariants.{Created, Running, Stopped}
use Rattle.node.specs.NodeState.{ContainerState, NodeState}
use Rattle.node.specs.Status.{status_of}

abbrev pub entry_listed : KernelState → List ℕ × ContainerState → List ℕ × Status
entry_listed k e = (e.0, status_of k e.1)

-- what `list` answers: each id with its status
abbrev pub listing : NodeState → List (List ℕ × Status)
listing n = map (entry_listed n.kernel) n.containers

-- a status is stored as one of three
abbrev pub of_status : Status → Option Bool
of_status Created = None
of_status Running = Some false
of_status Stopped = Some true

abbrev pub to_status : Option Bool → Status
to_status None = Created
to_status (Some false) = Running
to_status (Some true) = Stopped

pub to_of_status : (status : Status) → to_status (of_status status) ≡ status
to_of_status Created = refl
to_of_status Running = refl
to_of_status Stopped = refl

abbrev pub status_code : Coded Status
status_code = code_by (Option Bool) (coded_option coded_bool) of_status to_status to_of_status

abbrev pub listing_code : Coded (List (List ℕ × Status))
listing_code = coded_list (coded× (coded_list coded_ℕ) status_code)

-- What can be asked of a container.
-- From: OCI Runtime Specification 1.0.2, runtime.md, Query State.
use Rattle.std.specs.Prelude.{◌≡◌, ℕ, List, Some, None, Result, Ok, Err}
use Rattle.cpuset_tree.specs.declared.Group.{Group}
use Rattle.cpuset_tree.specs.Groups.{requested_cpus, requested_mems}
use Rattle.cpuset_tree.specs.Effective.{effective_cpus, effective_mems}
use Rattle.kernel_model.specs.KernelState.{KernelState}
use Rattle.node.specs.declared.fault.NodeFault.{NodeFault}
use Rattle.node.specs.declared.fault.NodeFault.TheVariants.{NoContainer}
use Rattle.node.specs.declared.sets.Sets.{Sets}
use Rattle.node.specs.NodeState.{ContainerState, NodeState, container_of}

-- the sets of a group
abbrev pub sets_at : KernelState → Group → Sets
sets_at k g = record {
  cpus = requested_cpus k.tree g;
  effective_cpus = effective_cpus k.tree g;
  mems = requested_mems k.tree g;
  effective_mems = effective_mems k.tree g;
}

-- what `sets` answers: the sets of the container's group
abbrev pub HasSets : NodeState → List ℕ → Result Sets NodeFault → Type 0
HasSets n id (Ok sets) = (c : ContainerState) × (container_of n id ≡ Some c) × (sets ≡ sets_at n.kernel c.group)
HasSets n id (Err fault) = (fault ≡ NoContainer) × (container_of n id ≡ None)

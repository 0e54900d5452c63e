-- The containers that ask for CPUs of their own, as rows of a problem.
use Rattle.std.specs.Prelude.{ℕ, cond, List, Option, None, filter_map, map, option_map}
use Rattle.cpu_set.specs.Ids.{Ids}
use Rattle.cpuset_tree.specs.Groups.{requested_cpus}
use Rattle.kernel_model.specs.KernelState.{KernelState}
use Rattle.machine.specs.Cores.{cores_in, cpus_of_cores}
use Rattle.machine.specs.Layout.{Layout}
use Rattle.certificate.specs.RowView.{RowView}
use Rattle.certificate.specs.PricesView.{PricesView}
use Rattle.certificate.specs.declared.weights.Weights.TheVariants.{WithMoves}
use Rattle.certificate.specs.declared.certificates.Certificate.{Certificate}
use Rattle.certificate.specs.declared.certificates.Certificate.TheVariants as certificate
use Rattle.rows.specs.RowOf.{row_of}
use Rattle.rows.specs.Scaled.{scaled}
use Rattle.node.specs.NodeState.{ContainerState, NodeState}
use Rattle.node.specs.Status.{is_live}

-- sets of CPUs as the cores of which each has all CPUs; a core is named by its lowest CPU
abbrev pub as_cores : Layout → List Ids → List Ids
as_cores m sets = map (cores_in m) sets

-- sets of cores as their CPUs
abbrev pub as_cpus : Layout → List Ids → List Ids
as_cpus m plan = map (cpus_of_cores m) plan

-- a live container's row over the cores whose CPUs are all online, if it is pinned
abbrev pub row_of_container : KernelState → Layout → List ℕ × ContainerState → Option RowView
row_of_container k m e = cond (is_live k e.1) (row_of m k.tree.online e.0 e.1.demand) None

-- the rows of the live pinned containers by distance, over cores, in the order of creation
abbrev pub rows_in : KernelState → Layout → List (List ℕ × ContainerState) → List RowView
rows_in k m containers = filter_map (row_of_container k m) containers

-- the rows of a node by distance
abbrev pub rows_of : NodeState → List RowView
rows_of n = rows_in n.kernel n.machine n.containers

-- the CPUs that a container's group requests; before its first plan these are the reserved ones, or those that it was adopted
-- with
abbrev pub requested_by : KernelState → List ℕ × ContainerState → Ids
requested_by k e = requested_cpus k.tree e.1.group

-- the same rows with weights that count moves besides the distance: each core that the group does not request as a whole is one
abbrev pub scaled_row_of_container : KernelState → Layout → List ℕ × ContainerState → Option RowView
scaled_row_of_container k m e = option_map (scaled (cores_in m (requested_by k e))) (row_of_container k m e)

abbrev pub scaled_rows_in : KernelState → Layout → List (List ℕ × ContainerState) → List RowView
scaled_rows_in k m containers = filter_map (scaled_row_of_container k m) containers

-- the same rows, with a move for each core that the container does not request as a whole
abbrev pub scaled_rows_of : NodeState → List RowView
scaled_rows_of n = scaled_rows_in n.kernel n.machine n.containers

-- the certificate of a plan of cores
abbrev pub planned : NodeState → List Ids → PricesView → ℕ → Certificate
planned n plan prices whole = certificate.Plan (scaled_rows_of n) plan prices whole WithMoves

-- the certificate of a shortage of the scaled rows
abbrev pub lacking : NodeState → List ℕ → Certificate
lacking n members = certificate.Short (scaled_rows_of n) members WithMoves

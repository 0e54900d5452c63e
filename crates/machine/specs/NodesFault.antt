use Rattle.std.specs.Prelude.{◌||◌, ◌&&◌, ◌==◌, nat_lt, List, [], ◌∷◌, length, take, map, slice_index_or, Option, option_map}
use Rattle.faults.specs.First.{when, first_of, first_below}
use Rattle.std.specs.FinSet as set
use Rattle.serde_json.specs.Data.{Data, null}
use Rattle.cpu_set.specs.Ids.{Ids}
use Rattle.cpu_set.specs.Least.{least_that}
use Rattle.machine.specs.declared.TheConstants.{NODE_LIMIT}
use Rattle.machine.specs.declared.fault.MachineFault.{MachineFault}
use Rattle.machine.specs.declared.fault.MachineFault.TheVariants.{NodeCount, CpuTwice}
use Rattle.machine.specs.declared.field.Field.TheVariants.{Nodes}
use Rattle.machine.specs.Present.{union_of}
use Rattle.machine.specs.Listed.{cpus_named}
use Rattle.machine.specs.KindFaults.{list_fault}

-- the least CPU of a node that the earlier nodes have too
unfoldable pub twice_fault : Ids → Ids → Option MachineFault
twice_fault earlier cpus = option_map CpuTwice (least_that (λ cpu. set.contains cpus cpu && set.contains earlier cpu))

-- a node is no list of CPUs, or has one of the earlier nodes' CPUs
unfoldable pub node_fault : Ids → Data → Option MachineFault
node_fault earlier d = first_of (list_fault Nodes d ∷ twice_fault earlier (cpus_named d) ∷ [])

-- the first fault of a node, after those before it
unfoldable pub first_node_fault : List Data → Option MachineFault
first_node_fault items =
    first_below (length items) (λ i. node_fault (union_of (map cpus_named (take i items))) (slice_index_or items i null))

-- there are too few or too many nodes, or one of them is at fault
unfoldable pub nodes_fault : List Data → Option MachineFault
nodes_fault items = first_of (
    when (length items == 0 || nat_lt NODE_LIMIT (length items)) NodeCount
    ∷ first_node_fault items
    ∷ [])

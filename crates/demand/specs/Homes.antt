-- Where a container's memory lies.
use Rattle.std.specs.Prelude.{ℕ, List, Option, if◌then◌else◌}
use Rattle.cpu_set.specs.Ids.{Ids, is_empty}
use Rattle.machine.specs.Layout.{Layout}
use Rattle.machine.specs.Nodes.{nodes_of}
use Rattle.demand.specs.Named.{named}

-- the nodes that `mems` names, or all nodes if it names none
abbrev pub homes_of : Layout → Option (List ℕ) → Ids
homes_of m mems = if is_empty (named mems) then nodes_of m else named mems

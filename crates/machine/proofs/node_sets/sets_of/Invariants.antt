use Rattle.std.proofs.Common.{◌≡◌, map, take}
use Rattle.serde_json.specs.View.{view}
use Rattle.machine.specs.Listed.{cpus_named}
use Rattle.machine.proofs.node_sets.sets_of.Given as goal

-- the nodes before this one are read
abbrev pub invariant-loop-item : goal.invariant-loop-item
invariant-loop-item l = l.sets.items ≡ map cpus_named (take l.item-index (map view l.items))

use Rattle.std.proofs.Common.{map}
use Rattle.serde_json.specs.View.{view}
use Rattle.machine.specs.Listed.{cpus_named}
use Rattle.machine.proofs.Marking.{ArePlaced}
use Rattle.machine.proofs.index.places_of.Given as goal

-- the CPUs of the nodes before this one are written
abbrev pub invariant-loop-i : goal.invariant-loop-i
invariant-loop-i l = ArePlaced (map cpus_named (map view l.items)) l.i l.places

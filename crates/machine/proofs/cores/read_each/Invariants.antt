use Rattle.std.proofs.Common.{map}
use Rattle.serde_json.specs.View.{view}
use Rattle.machine.specs.Listed.{cpus_named}
use Rattle.machine.proofs.CoreSteps.{AreCoresRead}
use Rattle.machine.proofs.cores.read_each.Given as goal

-- the cores before this one are without fault, and read
abbrev pub invariant-loop-i : goal.invariant-loop-i
invariant-loop-i l = AreCoresRead (map cpus_named (map view l.nodes)) l.reserved (map cpus_named (map view l.items)) l.i l.left l.lowest

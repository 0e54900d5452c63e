use Rattle.std.proofs.Common.{◌≡◌, ◌++◌, drop}
use Rattle.std.specs.Prelude.{map}
use Rattle.machine.specs.Cores.{cpus_of_cores}
use Rattle.node.proofs.opening.as_cpus.Given as goal

-- the sets so far and those of the cores that are left are those of all
abbrev pub invariant-loop-cores : goal.invariant-loop-cores
invariant-loop-cores l = l.sets.items ++ map (cpus_of_cores l.machine) (drop l.cores-index l.plan) ≡ map (cpus_of_cores l.machine) l.plan

-- The nodes of a machine file, once their lists are read.
use Rattle.std.specs.Prelude.{◌≡◌, ◌≤◌, List, AllPairs, length, map}
use Rattle.serde_json.specs.Data.{Data}
use Rattle.cpu_set.specs.Ids.{Ids, IsDisjoint}
use Rattle.machine.specs.KindFaults.{AreLists}
use Rattle.machine.specs.Listed.{cpus_named}
use Rattle.machine.specs.Present.{union_of}
use Rattle.machine.specs.declared.TheConstants.{NODE_LIMIT}
use Rattle.machine.specs.declared.field.Field.TheVariants.{Nodes}

-- lists of CPUs, no more than there may be nodes, of which no two have a CPU in common, and the CPUs of all of them
pub record AreNodes (nodes : List Data) (all : Ids) : Type 0 where
  pub lists : AreLists Nodes nodes
  pub few : length nodes ≤ NODE_LIMIT
  pub apart : AllPairs IsDisjoint (map cpus_named nodes)
  pub present : all ≡ union_of (map cpus_named nodes)

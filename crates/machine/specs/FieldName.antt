use Rattle.std.specs.Prelude.{ℕ, List, codes}
use Rattle.machine.specs.declared.field.Field.{Field}
use Rattle.machine.specs.declared.field.Field.TheVariants.{Nodes, Distances, Reserved, Offline, Cores}

-- the name of a member of a machine file
abbrev pub name_of : Field → List ℕ
name_of Nodes = codes "nodes"
name_of Distances = codes "distances"
name_of Reserved = codes "reserved"
name_of Offline = codes "offline"
name_of Cores = codes "cores"

-- The members of a machine file.
use Rattle.std.specs.Prelude.{List, [], ◌∷◌, Option}
use Rattle.std.specs.Option.{option_map_or}
use Rattle.json_text.specs.Members.{member_of}
use Rattle.serde_json.specs.Data.{Data, Items, no_items, item}
use Rattle.serde_json.specs.Find.{as_array}
use Rattle.machine.specs.FieldName.{name_of}
use Rattle.machine.specs.declared.field.Field.TheVariants.{Nodes, Distances, Reserved, Offline, Cores}

-- the lists of the nodes' CPUs, node 0 first
abbrev pub nodes_member : Data → Option Data
nodes_member d = member_of (name_of Nodes) d

-- the rows of distances
abbrev pub distances_member : Data → Option Data
distances_member d = member_of (name_of Distances) d

-- the list of the reserved CPUs
abbrev pub reserved_member : Data → Option Data
reserved_member d = member_of (name_of Reserved) d

-- the list of the CPUs that are offline at boot
abbrev pub offline_member : Data → Option Data
offline_member d = member_of (name_of Offline) d

-- the lists of the cores' CPUs
abbrev pub cores_member : Data → Option Data
cores_member d = member_of (name_of Cores) d

-- the items of an array
abbrev pub item_list : Items → List Data
item_list no_items = []
item_list (item d ds) = d ∷ item_list ds

-- the items of a value that is an array, none of another
abbrev pub items_of : Data → List Data
items_of d = option_map_or item_list (as_array d) []

-- the items of a member that is an array
abbrev pub items_in : Option Data → List Data
items_in found = option_map_or items_of found []

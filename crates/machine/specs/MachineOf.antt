-- The machine that a text describes, with or without a SLIT beside it, or the first thing that is wrong with it.
-- From: the order is ours.
use Rattle.std.specs.Prelude.{ℕ, not, cond, nat_lt, List, [], ◌∷◌, length, map, Option, Some, None, is_some, Result, Err}
use Rattle.std.specs.FinSet as set
use Rattle.faults.specs.First.{when, first_of, unless}
use Rattle.serde_json.specs.Data.{Data}
use Rattle.serde_json.specs.Find.{as_object}
use Rattle.slit.specs.Table.{Table}
use Rattle.machine.specs.declared.TheConstants.{MAX_BYTES}
use Rattle.machine.specs.declared.fault.MachineFault.{MachineFault}
use Rattle.machine.specs.declared.fault.MachineFault.TheVariants.{NotJson}
use Rattle.machine.specs.declared.field.Field.TheVariants.{Nodes}
use Rattle.machine.specs.BootFaults.{reserved_fault, offline_fault}
use Rattle.machine.specs.CoresFault.{lowest_of, size_of, cores_fault}
use Rattle.machine.specs.Distances.{distances_in}
use Rattle.machine.specs.DistancesFault.{distances_fault}
use Rattle.json_text.specs.JsonOf as json
use Rattle.machine.specs.KindFaults.{array_fault}
use Rattle.machine.specs.Layout.{Layout}
use Rattle.machine.specs.Listed.{cpus_named, listed_in}
use Rattle.machine.specs.Members.{nodes_member, distances_member, reserved_member, offline_member, cores_member, items_in}
use Rattle.machine.specs.NodesFault.{nodes_fault}
use Rattle.machine.specs.Present.{union_of, present}

-- what a JSON value says of a machine: a look-up
abbrev pub said_by : Option Table → Data → Layout
said_by slit d = record {
  nodes = map cpus_named (items_in (nodes_member d));
  distances = distances_in slit (distances_member d);
  reserved = listed_in (reserved_member d);
  online = set.difference (union_of (map cpus_named (items_in (nodes_member d)))) (listed_in (offline_member d));
  lowest = lowest_of (map cpus_named (items_in (cores_member d)));
  threads = size_of (map cpus_named (items_in (cores_member d)));
}

-- the first fault of a JSON value, in the order of the checks
abbrev pub value_fault : Option Table → Data → Option MachineFault
value_fault slit d = first_of (
    when (not (is_some (as_object d))) NotJson
    ∷ array_fault Nodes (nodes_member d)
    ∷ nodes_fault (items_in (nodes_member d))
    ∷ distances_fault slit (distances_member d) (length (items_in (nodes_member d)))
    ∷ reserved_fault (reserved_member d) (present (said_by slit d))
    ∷ offline_fault (offline_member d) (present (said_by slit d)) (listed_in (reserved_member d))
    ∷ cores_fault (map cpus_named (items_in (nodes_member d))) (listed_in (reserved_member d)) (cores_member d)
    ∷ [])

-- what a text says that may be no JSON
abbrev pub answer_to : Option Table → Option Data → Result Layout MachineFault
answer_to slit None = Err NotJson
answer_to slit (Some d) = unless (value_fault slit d) (said_by slit d)

-- the machine that a text describes
unfoldable pub machine_of : Option Table → List ℕ → Result Layout MachineFault
machine_of slit text = cond (nat_lt MAX_BYTES (length text)) (Err NotJson) (answer_to slit (json.json_of text))

-- what shows in a text before it is read as JSON: there are too many bytes or none, or they are not UTF-8
abbrev pub text_fault : List ℕ → Option MachineFault
text_fault text = first_of (when (nat_lt MAX_BYTES (length text)) NotJson ∷ json.text_fault NotJson text ∷ [])

use Rattle.std.specs.Prelude.{◌≡◌, ℕ, ◌≤◌, List, length, Option, Some, Ok}
use Rattle.json_text.specs.JsonOf.{json_of}
use Rattle.serde_json.specs.Data.{Data}
use Rattle.slit.specs.Table.{Table}
use Rattle.machine.specs.declared.TheConstants.{MAX_BYTES}
use Rattle.machine.specs.HasMembers.{HasMembers}
use Rattle.machine.specs.IsSound.{IsSound}
use Rattle.machine.specs.MachineOf.{said_by, machine_of}

-- a text that has the members of a machine file and says a sound machine describes that machine
abbrev pub SoundIsRead : Type 0
SoundIsRead = (slit : Option Table) (text : List ℕ) (d : Data) → length text ≤ MAX_BYTES → json_of text ≡ Some d
    → HasMembers slit d → IsSound (said_by slit d) → machine_of slit text ≡ Ok (said_by slit d)

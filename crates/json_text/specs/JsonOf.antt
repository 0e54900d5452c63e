-- The JSON value that a text is.
-- From: RFC 8259, as `serde_json` reads it.
use Rattle.std.specs.Prelude.{ℕ, ◌==◌, ◌||◌, not, is_none, List, length, Option, None, if◌then◌else◌}
use Rattle.std.specs.Str.{is_utf8}
use Rattle.faults.specs.First.{when}
use Rattle.serde_json.specs.Data.{Data}
use Rattle.serde_json.specs.Read.{read}

-- the value, if the bytes are UTF-8 and JSON; if a member stands twice the last one counts
unfoldable pub json_of : List ℕ → Option Data
json_of bytes = if is_utf8 bytes then read bytes else None

-- this fault, if the bytes are no JSON
abbrev pub json_fault : {F : Type 0} → F → List ℕ → Option F
json_fault not_json bytes = when (is_none (json_of bytes)) not_json

-- this fault, if there are no bytes or they are not UTF-8
abbrev pub text_fault : {F : Type 0} → F → List ℕ → Option F
text_fault not_json bytes = when (length bytes == 0 || not (is_utf8 bytes)) not_json

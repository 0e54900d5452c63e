-- The members of a JSON object.
-- From: that null counts as absent is ours.
use Rattle.std.specs.Prelude.{ℕ, List, Option, Some, None, option_map, option_and_then}
use Rattle.std.specs.Borrow.{Bor}
use Rattle.serde_json.specs.Data.{Data, null, boolean, number, string, array, object}
use Rattle.serde_json.specs.Find.{get}
use Rattle.serde_json.specs.View.{view}
use Rattle.serde_json.specs.declared.value.Value.{Value}

-- a value that is not null
abbrev pub not_null : Data → Option Data
not_null null = None
not_null (boolean b) = Some (boolean b)
not_null (number n) = Some (number n)
not_null (string s) = Some (string s)
not_null (array ds) = Some (array ds)
not_null (object ms) = Some (object ms)

-- the member of that name; one that is null counts as absent, and a value that is no object has none
abbrev pub member_of : List ℕ → Data → Option Data
member_of name d = option_and_then not_null (get name d)

-- the member of that name of a value that may be absent
abbrev pub inner_of : List ℕ → Option Data → Option Data
inner_of name found = option_and_then (member_of name) found

-- the value behind a reference that may be absent
abbrev pub seen : Option (Bor Value) → Option Data
seen found = option_map (λ v. view v.now) found

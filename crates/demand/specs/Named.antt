-- The set that an optional list names.
use Rattle.std.specs.Prelude.{ℕ, List, Option, Some, None, option_map}
use Rattle.std.specs.Borrow.{Bor}
use Rattle.std.specs.FinSet as set
use Rattle.cpu_set.specs.Ids.{Ids}
use Rattle.machine.specs.Listed.{set_of}

-- the numbers that a list names; where there is no list, none
unfoldable pub named : Option (List ℕ) → Ids
named None = set.empty
named (Some text) = set_of text

-- the text behind a reference that may be absent
abbrev pub text_of : Option (Bor (List ℕ)) → Option (List ℕ)
text_of list = option_map (λ t. t.now) list

-- The CPUs that lists as text name: cpuset(7), List Format.
use Rattle.std.specs.Prelude.{ℕ, Bool, false, List, [], Option, Some, None, unwrap_or, is_none}
use Rattle.std.specs.Option.{option_map_or}
use Rattle.std.specs.FinSet as set
use Rattle.serde_json.specs.Data.{Data}
use Rattle.serde_json.specs.Find.{as_str}
use Rattle.cpu_list.specs.FirstFault.{first_fault}
use Rattle.cpu_list.specs.ListText.{names}
use Rattle.cpu_set.specs.Those.{those}
use Rattle.cpu_set.specs.Ids.{Ids}
use Rattle.cpu_set.specs.declared.TheConstants.{CPU_LIMIT}

-- the CPUs that a text names
unfoldable pub set_of : List ℕ → Ids
set_of text = those (names text) CPU_LIMIT

-- the value is a text, and a list of CPUs
abbrev pub is_list : Data → Bool
is_list d = option_map_or (λ text. is_none (first_fault CPU_LIMIT text)) (as_str d) false

-- the CPUs that a value names
abbrev pub cpus_named : Data → Ids
cpus_named d = set_of (unwrap_or (as_str d) [])

-- the CPUs that a member names, none where it is absent
abbrev pub listed_in : Option Data → Ids
listed_in None = set.empty
listed_in (Some d) = cpus_named d

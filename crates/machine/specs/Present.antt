use Rattle.std.specs.Prelude.{◌≡◌, ℕ, true, List, fold}
use Rattle.std.specs.FinSet as set
use Rattle.cpu_set.specs.Ids.{Ids}
use Rattle.machine.specs.Layout.{Layout}

-- the CPUs that are in one of the sets
abbrev pub union_of : List Ids → Ids
union_of sets = fold set.union set.empty sets

-- the CPUs of all nodes
abbrev pub present : Layout → Ids
present m = union_of m.nodes

-- the machine has this CPU
abbrev pub IsPresent : Layout → ℕ → Type 0
IsPresent m cpu = set.contains (present m) cpu ≡ true

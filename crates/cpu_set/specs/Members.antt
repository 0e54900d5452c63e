-- The numbers that an `IdSet` may have, and the members of one in rising order.
use Rattle.std.specs.Prelude.{◌≡◌, ℕ, ◌<◌, true, not, ◌&&◌, nat_lt, List, filter}
use Rattle.std.specs.List.{range_with_len}
use Rattle.std.specs.FinSet as set
use Rattle.cpu_set.specs.Ids.{Ids}
use Rattle.cpu_set.specs.declared.TheConstants.{CPU_LIMIT}

-- a number that a set may have
abbrev pub IsCpu : ℕ → Type 0
IsCpu n = n < CPU_LIMIT

-- the numbers that a set may have, in rising order
unfoldable pub cpus : List ℕ
cpus = range_with_len 0 CPU_LIMIT

-- each member is a number that a set may have
abbrev pub InRange : Ids → Type 0
InRange s = (n : ℕ) → set.contains s n ≡ true → IsCpu n

-- the members of a set, in rising order
abbrev pub members : Ids → List ℕ
members s = filter (set.contains s) cpus

-- t has the numbers that a set may have and s does not
abbrev pub IsComplement : Ids → Ids → Type 0
IsComplement s t = (n : ℕ) → set.contains t n ≡ (nat_lt n CPU_LIMIT && not (set.contains s n))

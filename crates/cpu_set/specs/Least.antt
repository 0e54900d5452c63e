-- The least CPU that passes a test.
use Rattle.std.specs.Prelude.{ℕ, Bool, Option, find, unwrap_or}
use Rattle.std.specs.FinSet as set
use Rattle.cpu_set.specs.Ids.{Ids}
use Rattle.cpu_set.specs.Members.{cpus}

-- the least CPU that passes a test, or none if none does
abbrev pub least_that : (ℕ → Bool) → Option ℕ
least_that test = find test cpus

-- the least CPU of a set, and 0 where it has none
abbrev pub least_of : Ids → ℕ
least_of s = unwrap_or (least_that (set.contains s)) 0

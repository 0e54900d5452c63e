-- The numbers below a limit that pass a test, as a set.
use Rattle.std.specs.Prelude.{ℕ, zero, suc, Bool, cond}
use Rattle.std.specs.FinSet as set
use Rattle.cpu_set.specs.Ids.{Ids}

-- the numbers below n that pass
unfoldable pub those : (ℕ → Bool) → ℕ → Ids
those p zero = set.empty
those p (suc n) = cond (p n) (set.insert (those p n) n) (those p n)

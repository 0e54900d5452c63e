-- A walk over the CPUs of a set, in rising order, comes to its end.
use Rattle.std.proofs.Common.{◌≡◌, ℕ, ◌+◌, ◌-◌, ◌<◌, ◌≤◌, Option, Some, None, ap, subst, arith}
use Rattle.std.specs.Prelude.{IfSome, MatchOption}
use Rattle.cpu_set.specs.Ids.{Ids, NoneFrom, IsFirstFrom}
use Rattle.cpu_set.specs.Members.{IsCpu}
use Rattle.cpu_set.specs.declared.TheConstants.{CPU_LIMIT}

-- where the walk stands: at its next CPU, or past all
abbrev pub stop : Option ℕ → ℕ
stop None = CPU_LIMIT
stop (Some n) = n

pub stop_rises : (s : Ids) (cpu : ℕ) (now next : Option ℕ) → now ≡ Some cpu → IfSome now IsCpu → MatchOption next (NoneFrom s (cpu + 1)) (λ n. IsFirstFrom s (cpu + 1) n)
    → CPU_LIMIT - stop next < CPU_LIMIT - stop now
stop_rises s cpu now next is here on = rises next (subst (λ (o : Option ℕ). IfSome o IsCpu) is here) on (ap stop is) where
  rises : (o : Option ℕ) → cpu < CPU_LIMIT → MatchOption o (NoneFrom s (cpu + 1)) (λ n. IsFirstFrom s (cpu + 1) n) → stop now ≡ cpu → CPU_LIMIT - stop o < CPU_LIMIT - stop now
  rises None below on at = omega (arith, below, at)
  rises (Some n) below on at = let above : cpu + 1 ≤ n = on.above in omega (arith, below, at, above)

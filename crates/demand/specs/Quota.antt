-- What `quota` and `period` mean if they are absent or out of the ordinary.
-- From: the kernel's cgroup-v2 page, `cpu.max`.
use Rattle.std.specs.Prelude.{ℕ, zero, suc, ℤ, pos, negsuc, ◌*◌, ◌/◌, ◌≤◌, Option, Some, None}
use Rattle.cpu_set.specs.declared.TheConstants.{CPU_LIMIT}
use Rattle.demand.specs.AsksFor.{AsksFor}
use Rattle.demand.specs.declared.quota.TheConstants.{DEFAULT_PERIOD}

-- an absent, zero or negative quota is no limit
abbrev pub limit_of : Option ℤ → Option ℕ
limit_of None = None
limit_of (Some (pos zero)) = None
limit_of (Some (pos (suc n))) = Some (suc n)
limit_of (Some (negsuc n)) = None

-- an absent or zero period is the kernel's default, 100 milliseconds
abbrev pub period_of : Option ℕ → ℕ
period_of None = DEFAULT_PERIOD
period_of (Some zero) = DEFAULT_PERIOD
period_of (Some (suc n)) = suc n

-- the most CPUs of whole cores that there can be
abbrev pub most_cpus : ℕ → ℕ
most_cpus threads = CPU_LIMIT / threads * threads

-- a limit asks for a count of CPUs, within the number that there can be; no limit for none
abbrev pub IsCount : ℕ → Option ℕ → ℕ → Option ℕ → Type 0
IsCount threads None period None = Unit {0}
IsCount threads None period (Some count) = ⊥
IsCount threads (Some limit) period None = ⊥
IsCount threads (Some limit) period (Some count) = AsksFor limit period threads count × (count ≤ CPU_LIMIT)

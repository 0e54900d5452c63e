-- How many CPUs a quota asks for: the time that all tasks may run during one period, in whole cores.
-- From: OCI Runtime Specification 1.0.2, config-linux.md, CPU.
use Rattle.std.specs.Prelude.{◌≡◌, ℕ, ◌-◌, ◌*◌, ◌<◌, ◌≤◌}

-- the count of CPUs that a quota in a period asks for, with no division. They give the quota, and those of one core less do
-- not.
pub record AsksFor (quota period threads count : ℕ) : Type 0 where
  pub whole : (cores : ℕ) × (count ≡ cores * threads)
  pub enough : quota ≤ count * period
  pub no_more : (count - threads) * period < quota

-- a quota in a period asks for one count of CPUs and no other
abbrev pub IsOneCount : Type 0
IsOneCount = (quota period threads one other : ℕ) → AsksFor quota period threads one → AsksFor quota period threads other → one ≡ other

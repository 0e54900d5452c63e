-- The first CPUs of sets, and what finds the set again.
use Rattle.std.specs.Prelude.{◌≡◌, ℕ, ◌<◌, true, List, length}
use Rattle.std.specs.FinSet as set
use Rattle.cpu_set.specs.Ids.{Ids}
pub use Rattle.cpu_set.specs.Least.{least_of as first_of}
use Rattle.cpu_set.specs.Members.{IsCpu}
use Rattle.cpu_set.specs.declared.TheConstants.{CPU_LIMIT}
use Rattle.transport.specs.Numbers.{number, IsIn}

-- the first CPUs up to some place are those of the set, and each leads to its place
pub record IsIndex (cpus : List ℕ) (s : Ids) (class_of : List ℕ) (upto : ℕ) : Type 0 where
  pub long : length class_of ≡ CPU_LIMIT
  pub in_range : (g : ℕ) → IsCpu (number cpus g)
  pub first : (c : ℕ) → set.contains s c ≡ true → IsIn cpus c
  pub all : (g : ℕ) → g < upto → set.contains s (number cpus g) ≡ true
  pub class : (g : ℕ) → g < upto → number class_of (number cpus g) ≡ g

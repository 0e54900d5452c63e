-- What a machine works out once, as it is read.
use Rattle.std.specs.Prelude.{◌≡◌, ℕ, ◌+◌, ◌<◌, ◌≤◌, true, ◌&&◌, ◌==◌, nat_lt, List, length, slice_index_or}
use Rattle.std.specs.FinSet as set
use Rattle.cpu_set.specs.Ids.{Ids}
use Rattle.cpu_set.specs.Members.{InRange}
use Rattle.cpu_set.specs.declared.TheConstants.{CPU_LIMIT}
use Rattle.machine.specs.IsSound.{IsSound}
use Rattle.machine.specs.Layout.{Layout}
use Rattle.machine.specs.Present.{present}

-- at each CPU of a node stands the node
pub record ArePlaces (nodes : List Ids) (places : List ℕ) : Type 0 where
  pub room : length places ≡ CPU_LIMIT
  pub placed : (c i : ℕ) → i < length nodes → set.contains (slice_index_or nodes i set.empty) c ≡ true → slice_index_or places c 0 ≡ i

-- the least number from this one on whose core has this lowest CPU; the limit where there is none
pub record IsFirstOf (lowest : List ℕ) (core from first : ℕ) : Type 0 where
  pub is : first < CPU_LIMIT → (from ≤ first) × (slice_index_or lowest first first ≡ core)
  pub least : (q : ℕ) → from ≤ q → q < CPU_LIMIT → slice_index_or lowest q q ≡ core → first ≤ q

-- at each CPU number stands the next one of its core
pub record AreSiblings (lowest next : List ℕ) : Type 0 where
  pub room : length next ≡ CPU_LIMIT
  pub each : (c : ℕ) → c < CPU_LIMIT → IsFirstOf lowest (slice_index_or lowest c c) (c + 1) (slice_index_or next c 0)

-- these are the numbers that are the lowest of their core, or of no core
abbrev pub AreFirsts : List ℕ → Ids → Type 0
AreFirsts lowest firsts = (c : ℕ) → set.contains firsts c ≡ (nat_lt c CPU_LIMIT && (slice_index_or lowest c c == c))

-- a sound machine, all of its CPUs, the node of each, the next of its core, and the lowest of all cores
pub record IsIndexed (m : Layout) (cpus : Ids) (written next : List ℕ) (low : Ids) : Type 0 where
  pub sound : IsSound m
  pub all : cpus ≡ present m
  pub in_range : InRange cpus
  pub places : ArePlaces m.nodes written
  pub siblings : AreSiblings m.lowest next
  pub firsts : AreFirsts m.lowest low

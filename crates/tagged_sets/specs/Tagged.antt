-- Sets kept as ranges, one set's behind another's.
-- the ranges of a set, rising and as long as possible
use Rattle.cpu_set.specs.Ids.{Ids}
use Rattle.cpu_set.specs.Members.{members}
use Rattle.cpu_set.specs.Ranges.{in_ranges, ranges_of}
use Rattle.cpu_set.specs.Those.{those}
use Rattle.cpu_set.specs.declared.TheConstants.{CPU_LIMIT}
use Rattle.std.proofs.Common.{Bool, List, [], get_or, length, suc, zero, ℕ, ◌++◌, ◌<◌, ◌∷◌, ◌≡◌, ◌≤◌}
use Rattle.std.specs.List.{list_any}
use Rattle.std.specs.Prelude.{All, slice_range, ◌⊎◌}
use Rattle.tagged_sets.specs.declared.tagged_sets.Head.{Head}
use Rattle.tagged_sets.specs.declared.tagged_sets.WideSet.{WideSet}
use Rattle.std.specs.FinSet as set

-- the ranges of a set, rising and as long as possible
unfoldable pub ranges_of_set : Ids → List (ℕ × ℕ)
ranges_of_set s = ranges_of (members s)

-- the numbers of ranges, as a set
unfoldable pub set_of_ranges : List (ℕ × ℕ) → Ids
set_of_ranges ranges = those (in_ranges ranges) CPU_LIMIT

-- they are the ranges of some set: of that of their numbers
abbrev pub IsOfSet : List (ℕ × ℕ) → Type 0
IsOfSet ranges = ranges_of_set (set_of_ranges ranges) ≡ ranges

-- the sets of the ranges from one end to the next, each with its tag
abbrev pub tagged : {T : Type 0} → List (ℕ × ℕ) → ℕ → List (Head T) → List (T × Ids)
tagged ranges start [] = []
tagged ranges start (h ∷ more) = (h.tag, set_of_ranges (slice_range ranges start h.end)) ∷ tagged ranges h.end more

-- where the ranges of set k begin
unfoldable pub start_at : {T : Type 0} → ℕ → List (Head T) → ℕ → ℕ
start_at start heads zero = start
start_at start [] (suc k) = start
start_at start (h ∷ more) (suc k) = start_at h.end more k

-- the ends rise up to the number of ranges, and between two ends are the ranges of a set
abbrev pub AreKept : {T : Type 0} → List (ℕ × ℕ) → ℕ → List (Head T) → Type 0
AreKept ranges start [] = start ≡ length ranges
AreKept ranges start (h ∷ more) = (start ≤ h.end) × IsOfSet (slice_range ranges start h.end) × AreKept ranges h.end more

-- a set that is kept beside its ranges is the one at its place
abbrev pub IsWideOf : {T : Type 0} → List (T × Ids) → WideSet → Type 0
IsWideOf {T} sets w = (w.at < length sets) × ((d : T × Ids) → w.cpus ≡ (get_or sets w.at d).1)

-- each of the sets that are kept beside their ranges is the one at its place
abbrev pub AreWide : {T : Type 0} → List WideSet → List (T × Ids) → Type 0
AreWide wide sets = All (IsWideOf sets) wide

-- a set and its place
abbrev pub wide_set : ℕ → Ids → WideSet
wide_set place s = record { at = place; cpus = s }

-- at most a set at this place is kept beside its ranges, behind those that were
abbrev pub MayKeep : List WideSet → List WideSet → ℕ → Ids → Type 0
MayKeep old new place s = (new ≡ old) ⊎ (new ≡ old ++ wide_set place s ∷ [])

-- one of some sets with tags has the number
abbrev pub in_any : {T : Type 0} → List (T × Ids) → ℕ → Bool
in_any sets n = list_any (λ p. set.contains p.1 n) sets

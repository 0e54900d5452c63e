-- Runs of CPUs that no row tells apart.
use Rattle.std.specs.Prelude.{◌≡◌, ℕ, ◌+◌, ◌<◌, ◌≤◌, true, false, List}
use Rattle.std.specs.FinSet as set
use Rattle.cpu_set.specs.Ids.{Ids}
use Rattle.cpu_set.specs.Members.{IsCpu}
use Rattle.certificate.specs.RowView.{RowView}
use Rattle.certificate.specs.IsDealt.{AreTwins}

-- a CPU that is no edge is a twin of the CPU below
abbrev pub AreEdges : List RowView → Ids → Type 0
AreEdges rows edges = (cpu : ℕ) → IsCpu (cpu + 1) → set.contains edges (cpu + 1) ≡ false → AreTwins rows cpu (cpu + 1)

-- no edge lies above one of the CPUs and not above another
abbrev pub IsRun : Ids → Ids → Type 0
IsRun edges s =
    (a b edge : ℕ) → set.contains s a ≡ true → set.contains s b ≡ true → a < edge → edge ≤ b → set.contains edges edge ≡ false

-- The input of a name, which may be standard input.
use Rattle.std.specs.Prelude.{◌≡◌, ℕ, List, true, false, Option, Some, None, bytes_eq, codes}
use Rattle.program_io.specs.Readings.{Reading}

-- what the reading of the input of this name may answer: of standard input for `-`, or of a file
abbrev pub reads_named : (List ℕ → Reading → Type 0) → (Reading → Type 0) → List ℕ → Reading → Type 0
reads_named files input name reading = (bytes_eq name (codes "-") ≡ true → input reading) × (bytes_eq name (codes "-") ≡ false → files name reading)

-- the input that a check names, or standard input
abbrev pub name_of : Option (List ℕ) → List ℕ
name_of None = codes "-"
name_of (Some name) = name

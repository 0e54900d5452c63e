-- What is found of a bundle.
use Rattle.std.specs.Prelude.{◌≡◌, ℕ, List, Option, Some, None}
use Rattle.std.specs.Map.{lookup}
use Rattle.std.specs.Str.{bytes_eq}
use Rattle.runtime.specs.RuntimeState.{Told}

-- what may be found of a bundle: its config, if configs are told and there is such a bundle; anything, if none are told
abbrev pub IsFound : Told → List ℕ → Option (List ℕ) → Type 0
IsFound None bundle found = Unit {0}
IsFound (Some configs) bundle found = found ≡ lookup (bytes_eq bundle) configs

-- the same, by what looks at bundles may find
abbrev pub IsSeen : (List ℕ → Option (List ℕ) → Type 0) → Told → List ℕ → Option (List ℕ) → Type 0
IsSeen finds told bundle found = IsFound told bundle found × finds bundle found

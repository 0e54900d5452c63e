-- What is found of a bundle that is a folder.
-- From: OCI Runtime Specification 1.0.2, bundle.md.
use Rattle.std.specs.Prelude.{◌≡◌, ◌⊎◌, ℕ, List, ◌++◌, Option, Some, None, Ok, Err, codes}
use Rattle.std.specs.declared.io.ErrorKind.{ErrorKind}
use Rattle.faults.specs.declared.or_memory.OrMemory.TheVariants.{Memory, Fault}
use Rattle.program_io.specs.Readings.{Reading}

-- which file the config of a bundle is
abbrev pub config_path : List ℕ → List ℕ
config_path bundle = bundle ++ codes "/config.json"

-- the bytes of a file, or none where it can't be read
abbrev pub IsFoundBy : Reading → Option (List ℕ) → Type 0
IsFoundBy (Ok bytes) found = found ≡ Some bytes
IsFoundBy (Err (Fault fault)) found = found ≡ None
IsFoundBy (Err Memory) found = ⊥

-- what is found of a bundle: its config's file was opened and read, and nothing else; or it can't be opened
abbrev pub IsConfigOf : {I : Type 0} → (List ℕ → I → Type 0) → (List ℕ → ErrorKind → Type 0) → (I → Reading → Type 0) → List ℕ → Option (List ℕ) → Type 0
IsConfigOf {I} opens fails gives bundle found =
    ((file : I) × opens (config_path bundle) file × ((reading : Reading) × gives file reading × IsFoundBy reading found))
    ⊎ ((kind : ErrorKind) × fails (config_path bundle) kind × (found ≡ None))

-- the same in files of which it is known what may be opened
abbrev pub IsConfigIn : {S I : Type 0} → (S → List ℕ → I → Type 0) → (S → List ℕ → ErrorKind → Type 0) → (I → Reading → Type 0) → List ℕ → Option (List ℕ) → Type 0
IsConfigIn {S} opens fails gives bundle found = (files : S) × IsConfigOf (opens files) (fails files) gives bundle found

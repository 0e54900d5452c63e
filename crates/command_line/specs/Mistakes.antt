-- Which mistakes the words have.
-- From: `clap`'s own reading of a command line; that `--adopt` and `--partition` ask for `--cgroup` is ours.
use Rattle.std.specs.Prelude.{◌≡◌, ◌||◌, Bool, false, if◌then◌else◌, List, [], ◌∷◌, None}
use Rattle.clap.specs.Kinds.{or_else}
use Rattle.clap.specs.Words.{IsAmong, Kinds, Text, fault_of, kind_of, subcommand_of}
use Rattle.clap.specs.declared.error.Error.{Error}
use Rattle.clap.specs.declared.error.kind.ErrorKind.{ErrorKind}
use Rattle.clap.specs.declared.error.kind.ErrorKind.TheVariants as kind
use Rattle.command_line.specs.Asked.{Asked, asked_in, run}
use Rattle.command_line.specs.CommandLine.{numarun}
use Rattle.faults.specs.declared.or_memory.OrMemory.{OrMemory}
use Rattle.faults.specs.declared.or_memory.OrMemory.TheVariants.{Memory, Fault}

-- `--adopt` or `--partition` is given without `--cgroup`
abbrev pub lacks_root : Asked → Bool
lacks_root (run machine table None options) = options.adopt || options.partition
lacks_root asks = false

-- why words that the builder's rules take are refused: an argument is wanting
abbrev pub lacking : Asked → Kinds
lacking asks = if lacks_root asks then kind.MissingRequiredArgument ∷ [] else []

-- why the grammar refuses words: by clap's rules, or since `--adopt` or `--partition` lacks its root
abbrev pub refusals : List Text → Kinds
refusals words = or_else (fault_of numarun words) (lacking (asked_in (subcommand_of numarun words)))

-- the kinds of mistake in the words, or of request for the help; no words have none
abbrev pub mistakes : List Text → Kinds
mistakes [] = []
mistakes (word ∷ rest) = refusals (word ∷ rest)

-- words failed by an error of a kind that they may fail by. They have a mistake of this kind, or an allocation failed where
-- the grammar failed by it.
abbrev pub HasCause : (ErrorKind → Type 0) → List Text → OrMemory Error → Type 0
HasCause fails words Memory = fails kind.OutOfMemory
HasCause fails words (Fault error) = IsAmong (kind_of error) (mistakes words) × fails (kind_of error)

-- an allocation failure as the builder tells it, or any other of its errors
abbrev pub IsFaultOf : Error → OrMemory Error → Type 0
IsFaultOf error Memory = kind_of error ≡ kind.OutOfMemory
IsFaultOf error (Fault other) = (other ≡ error) × (kind_of error ≡ kind.OutOfMemory → ⊥)

-- What the words after the program's name ask for.
-- From: `clap`'s own reading of a command line.
use Rattle.std.specs.Borrow.{Bor}
use Rattle.std.specs.Prelude.{Bool, Option, Some, None, List, [], ◌∷◌, codes, bytes_eq, if◌then◌else◌, option_map, unwrap_or}
use Rattle.clap.specs.Words.{Row, Text, first_of, subcommand_of}
use Rattle.cgroup_tree.specs.declared.RootOptions.{RootOptions}
use Rattle.command_line.specs.CommandLine.{numarun}
use Rattle.command_line.specs.declared.words.Words.{Words}
use Rattle.command_line.specs.declared.words.Words.TheVariants as words

-- the check of a file, or of standard input; a list; the distance table in a file; a script over the machine of a file,
-- perhaps with a distance table in another, perhaps below the root of a cgroup tree, which is opened so; the solution of the
-- problem in a file, or on standard input
pub data Asked : Type 0 where
  check : Option Text → Asked
  list : Text → Asked
  slit : Text → Asked
  run : Text → Option Text → Option Text → RootOptions → Asked
  solve : Option Text → Asked

-- the text of a word
abbrev pub word_bytes : Bor Text → Text
word_bytes word = word.now

-- what numarun is asked to do, its words as plain texts
abbrev pub asked : Words → Asked
asked (words.Check file) = check (option_map word_bytes file)
asked (words.List text) = list text.now
asked (words.Slit file) = slit file.now
asked (words.Run machine table root options) = run machine.now (option_map word_bytes table) (option_map word_bytes root) options
asked (words.Solve file) = solve (option_map word_bytes file)

-- the value of an argument that has to be given
abbrev pub value : Text → List Row → Text
value id rows = unwrap_or (first_of id rows) []

-- whether a flag was given
abbrev pub is_set : Text → List Row → Bool
is_set id rows = bytes_eq (value id rows) (codes "true")

-- how the tree is opened: each flag by itself
abbrev pub options_of : List Row → RootOptions
options_of rows = record { adopt = is_set (codes "adopt") rows; partition = is_set (codes "partition") rows }

-- what a subcommand of this name asks for with these values of its arguments
abbrev pub asked_by : Text × List Row → Asked
asked_by given =
    if bytes_eq given.0 (codes "list") then list (value (codes "text") given.1)
    else if bytes_eq given.0 (codes "slit") then slit (value (codes "file") given.1)
    else if bytes_eq given.0 (codes "run") then run (value (codes "machine") given.1) (first_of (codes "slit") given.1) (first_of (codes "cgroup") given.1) (options_of given.1)
    else if bytes_eq given.0 (codes "solve") then solve (first_of (codes "file") given.1)
    else check (first_of (codes "file") given.1)

-- what the subcommand that was given asks for
abbrev pub asked_in : Option (Text × List Row) → Asked
asked_in None = check None
asked_in (Some given) = asked_by given

-- what words ask for; no words ask for a check of standard input
abbrev pub asked_for : List Text → Asked
asked_for [] = check None
asked_for (word ∷ rest) = asked_in (subcommand_of numarun (word ∷ rest))

-- The command line of numarun: its subcommands and what each takes.
use Rattle.std.specs.Prelude.{◌≡◌, List, [], ◌∷◌, Some, codes, true, false}
use Rattle.clap.specs.Words.{App, Rule, Shape, Text, app_of, new_app, new_rule}
use Rattle.clap.specs.declared.builder.action.ArgAction.TheVariants.{SetTrue}
use Rattle.clap.specs.declared.builder.command.Command.{Command}
use Rattle.clap.specs.declared.builder.command.Command.TheViews.{out-Command}

-- a subcommand that takes these arguments
abbrev pub command : Text → List Rule → Shape
command name rules = record (new_app name).top { rules = rules }

-- an argument that stands alone in its place, and that the help shows under one name
abbrev pub placed : Text → Rule
placed id = record (new_rule id) { value_names = 1 }

-- such an argument that has to be given
abbrev pub required : Text → Rule
required id = record (placed id) { required = true }

-- check [FILE]
abbrev pub check_command : Shape
check_command = command (codes "check") (placed (codes "file") ∷ [])

-- list TEXT
abbrev pub list_command : Shape
list_command = command (codes "list") (required (codes "text") ∷ [])

-- slit FILE
abbrev pub slit_command : Shape
slit_command = command (codes "slit") (required (codes "file") ∷ [])

-- an option of this long name, which takes a value
abbrev pub option : Text → Rule
option id = record (placed id) { long = Some id }

-- an option of this long name, which takes none
abbrev pub flag : Text → Rule
flag id = record (new_rule id) { long = Some id; action = Some SetTrue }

-- run MACHINE [--slit FILE] [--cgroup ROOT] [--adopt] [--partition]
abbrev pub run_command : Shape
run_command = command (codes "run") (required (codes "machine") ∷ option (codes "slit") ∷ option (codes "cgroup") ∷ flag (codes "adopt") ∷ flag (codes "partition") ∷ [])

-- solve [FILE]
abbrev pub solve_command : Shape
solve_command = command (codes "solve") (placed (codes "file") ∷ [])

-- numarun, which has a version, before its subcommands
abbrev pub bare : App
bare = record { top = record (new_app (codes "numarun")).top { no_binary_name = true; has_version = true; subcommand_required = true }; subs = [] }

-- numarun, and its subcommands, of which one has to be given
abbrev pub numarun : App
numarun = record {
  top = record (new_app (codes "numarun")).top { no_binary_name = true; has_version = true; subcommand_required = true; is_leaf = false };
  subs = check_command ∷ list_command ∷ slit_command ∷ run_command ∷ solve_command ∷ [];
}

-- a command of this shape with no subcommands of its own
pub record IsLeaf (shape : Shape) (c : Command) : Type 0 where
  pub app : app_of c ≡ record { top = shape; subs = [] }
  pub local : (out-Command c).has_globals ≡ false

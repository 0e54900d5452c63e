-- What fails by clap's rules fails.
use Rattle.std.proofs.Common.{map, string_bytes, [], ◌∷◌, inl, inr}
use Rattle.clap.specs.Kinds.{HasKind, Kinds, or_else}
use Rattle.clap.specs.Words.{IsAmong, fault_of, subcommand_of}
use Rattle.clap.specs.declared.error.Error.{Error}
use Rattle.clap.specs.declared.error.kind.ErrorKind.{ErrorKind}
use Rattle.command_line.specs.Asked.{asked_in}
use Rattle.command_line.specs.CommandLine.{numarun}
use Rattle.command_line.specs.Mistakes.{lacking}
use Rattle.command_line.proofs.command_line.CommandLineGrammar.matches.Goals as goal

among_first : (kind : ErrorKind) (first then : Kinds) → IsAmong kind first → IsAmong kind (or_else first then)
among_first kind [] then among = absurd among
among_first kind (k ∷ ks) then among = among

has_first : (error : Error) (first then : Kinds) → HasKind first error → HasKind (or_else first then) error
has_first error first then has = elim has [ inl memory ↦ inl memory | inr among ↦ inr (among_first _ first then among) ]

pub returns-in-Err-clause-kinds : goal.returns-in-Err-clause-kinds
returns-in-Err-clause-kinds c =
    let words = map string_bytes c.args.words.now in
    has_first c.in-Err.error (fault_of numarun words) (lacking (asked_in (subcommand_of numarun words))) c.in-Err.ensures.kinds

pub returns-in-Err-clause-fails : goal.returns-in-Err-clause-fails
returns-in-Err-clause-fails c =
    let words = map string_bytes c.args.words.now in
    has_first c.in-Err.error (fault_of numarun words) (lacking (asked_in (subcommand_of numarun words))) c.in-Err.ensures.kinds

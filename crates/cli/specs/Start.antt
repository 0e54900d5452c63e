-- What the program does with its arguments. The first is its name.
use Rattle.std.specs.Prelude.{◌≡◌, ◌≢◌, ℕ, List, [], Option, codes}
use Rattle.std.specs.IoError.{error_kind}
use Rattle.std.specs.declared.io.Error.{Error}
use Rattle.std.specs.declared.io.ErrorKind.TheVariants.{OutOfMemory}
use Rattle.program_io.specs.RefusalLine.{refusal_line}
use Rattle.answers.specs.Says.{Complains, Says}
use Rattle.answers.specs.declared.console.Console.{Console}
use Rattle.program_io.specs.declared.refusal.Refusal.TheVariants.{Memory}

-- what standard error says of words that are no text
abbrev pub no_text_line : List ℕ
no_text_line = codes "error: the words of the command line are not UTF-8\n"

-- the arguments could not be had
module _ {W E : Type 0} (out : W → Option (List ℕ)) (err : E → Option (List ℕ)) (old new : Console W E) (status : ℕ) where
  -- what is printed if the arguments can't be had
  abbrev pub Stops : Error → Type 0
  Stops error =
      (error_kind error ≡ OutOfMemory → Says out err old new status (refusal_line Memory) 1 [])
      × (error_kind error ≢ OutOfMemory → Complains out err old new status no_text_line)

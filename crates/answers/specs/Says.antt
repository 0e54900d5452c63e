-- What goes to the two streams of the program, and its exit status.
use Rattle.std.specs.Prelude.{◌≡◌, ◌⊎◌, ℕ, List, Option}
use Rattle.answers.specs.Notes.{unwritten_line}
use Rattle.program_io.specs.Pages.{Sends, Takes, TakesIfRoom}
use Rattle.answers.specs.declared.console.Console.{Console}

-- the two streams before and after, as far as their bytes are known, and the exit status
module _ {W E : Type 0} (out : W → Option (List ℕ)) (err : E → Option (List ℕ)) (old new : Console W E) (status : ℕ) where
  -- the text goes to standard output and a note to standard error, and this is the status. If the text can't be written
  -- whole, standard error takes the line that says so, and the status is 1.
  abbrev pub Says : List ℕ → ℕ → List ℕ → Type 0
  Says text wanted note =
      ((status ≡ wanted) × Sends out old.out new.out text × Takes err old.err new.err note)
      ⊎ ((status ≡ 1) × Takes out old.out new.out text × TakesIfRoom err old.err new.err unwritten_line)

  -- standard error says what is wrong with the words, standard output stays as it was, and the status is 2
  abbrev pub Complains : List ℕ → Type 0
  Complains line = (status ≡ 2) × (new.out ≡ old.out) × TakesIfRoom err old.err new.err line

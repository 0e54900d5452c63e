-- An answer that is told: its text, its status, and the note beside it.
use Rattle.std.specs.Prelude.{ℕ, List, [], Option, Result}
use Rattle.cpu_set.specs.Ids.{Ids}
use Rattle.answers.specs.Answer.{AnswersInput, answer_text, status_of}
use Rattle.answers.specs.CheckAnswer.{IsAnswerTo, verdict_line}
use Rattle.answers.specs.ListAnswer.{IsSetOrRefusal, set_line}
use Rattle.answers.specs.Notes.{note_on}
use Rattle.program_io.specs.Readings.{Reading}
use Rattle.answers.specs.Says.{Says}
use Rattle.answers.specs.SlitAnswer.{IsTableOrRefusal, table_text}
use Rattle.answers.specs.SolveAnswer.{IsSolutionOf, solution_text}
use Rattle.answers.specs.declared.console.Console.{Console}
use Rattle.program_io.specs.declared.refusal.Refusal.{Refusal}

-- the two streams before and after, as far as their bytes are known, and the exit status
module _ {W E : Type 0} (out : W → Option (List ℕ)) (err : E → Option (List ℕ)) (old new : Console W E) (status : ℕ) where
  -- the answer to an input that is called so
  abbrev pub Answers : {T : Type 0} → (T → List ℕ) → List ℕ → Result T Refusal → Type 0
  Answers text name answer = Says out err old new status (answer_text text answer) (status_of answer) (note_on name answer)

  -- one of the readings that there may be of an input is answered so
  abbrev pub Tells : {T : Type 0} → (List ℕ → Result T Refusal → Type 0) → (T → List ℕ) → (Reading → Type 0) → List ℕ → Type 0
  Tells {T} answers text reads name = (answer : Result T Refusal) × AnswersInput answers reads answer × Answers text name answer

  -- the answer to a certificate is told
  abbrev pub Checks : (Reading → Type 0) → List ℕ → Type 0
  Checks reads name = Tells IsAnswerTo verdict_line reads name

  -- the answer to a distance table is told
  abbrev pub Tabulates : (Reading → Type 0) → List ℕ → Type 0
  Tabulates reads name = Tells IsTableOrRefusal table_text reads name

  -- the answer to a problem is told
  abbrev pub Solves : (Reading → Type 0) → List ℕ → Type 0
  Solves reads name = Tells IsSolutionOf solution_text reads name

  -- the answer to a list is told
  abbrev pub Lists : List ℕ → Type 0
  Lists text = (answer : Result Ids Refusal) × IsSetOrRefusal text answer × Answers set_line [] answer

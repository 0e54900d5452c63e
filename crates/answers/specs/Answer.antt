-- What numarun answers to an input, and its exit status.
use Rattle.std.specs.Prelude.{◌≡◌, ℕ, List, Result, Ok, Err}
use Rattle.program_io.specs.FaultRefusal.{read_refusal}
use Rattle.program_io.specs.Readings.{Reading}
use Rattle.program_io.specs.RefusalLine.{refusal_line}
use Rattle.program_io.specs.declared.refusal.Refusal.{Refusal}

-- the text of what was found, or the refusal's line
abbrev pub answer_text : {T : Type 0} → (T → List ℕ) → Result T Refusal → List ℕ
answer_text text (Ok found) = text found
answer_text text (Err refusal) = refusal_line refusal

-- an answer's exit status
abbrev pub status_of : {T : Type 0} → Result T Refusal → ℕ
status_of (Ok found) = 0
status_of (Err refusal) = 1

-- an answer to what a reading gave: to the bytes, or the refusal that says why they could not be had
abbrev pub AnswersReading : {T : Type 0} → (List ℕ → Result T Refusal → Type 0) → Reading → Result T Refusal → Type 0
AnswersReading answers (Ok bytes) answer = answers bytes answer
AnswersReading answers (Err e) answer = answer ≡ Err (read_refusal e)

-- one of the readings that there may be is answered so
abbrev pub AnswersInput : {T : Type 0} → (List ℕ → Result T Refusal → Type 0) → (Reading → Type 0) → Result T Refusal → Type 0
AnswersInput answers reads answer = (reading : Reading) × reads reading × AnswersReading answers reading answer

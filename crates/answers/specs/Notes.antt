-- What standard error says beside an answer.
use Rattle.std.specs.Prelude.{List, [], ℕ, Option, Some, None, Result, Ok, Err, bytes_eq, codes, if◌then◌else◌}
use Rattle.json_text.specs.declared.flaw.Flaw.{Flaw}
use Rattle.json_text.specs.declared.flaw.FlawKind.{FlawKind}
use Rattle.json_text.specs.declared.flaw.FlawKind.TheVariants.{NotUtf8, CutShort, NotJson}
use Rattle.program_io.specs.ErrorLine.{error_at, error_line}
use Rattle.program_io.specs.ReadFaults.{reason_of}
use Rattle.answers.specs.declared.note.Note.{Note}
use Rattle.program_io.specs.declared.fault.ReadFault.{ReadFault}
use Rattle.program_io.specs.declared.refusal.Refusal.{Refusal}
use Rattle.program_io.specs.declared.refusal.Refusal.TheVariants as refusal

-- what standard error says of an answer that can't be written
abbrev pub unwritten_line : List ℕ
unwritten_line = codes "error: the answer can't be written\n"

abbrev pub standard_input : List ℕ
standard_input = codes "standard input"

-- how an input is called that may be standard input, which is named by `-`
abbrev pub shown : List ℕ → List ℕ
shown name = if bytes_eq name (codes "-") then standard_input else name

-- of an input that can't be read: which it is, and why
abbrev pub unread_line : List ℕ → ReadFault → List ℕ
unread_line name fault = error_line name (reason_of fault)

-- the same, and at which line and column where it is a text
abbrev pub told_of : List ℕ → List ℕ → Option (ℕ × ℕ) → List ℕ
told_of name reason None = error_line name reason
told_of name reason (Some place) = error_at name reason place.0 place.1

abbrev pub note_text : Option Note → List ℕ
note_text None = []
note_text (Some note) = told_of note.name.now note.reason.now note.place

-- how a text fails to be JSON
abbrev pub flaw_words : FlawKind → List ℕ
flaw_words NotUtf8 = codes "is not UTF-8"
flaw_words CutShort = codes "ends too early"
flaw_words NotJson = codes "is no JSON"

-- the line that says of a text of this name how it fails to be JSON, and where
abbrev pub flaw_line : List ℕ → Flaw → List ℕ
flaw_line name flaw = error_at name (flaw_words flaw.kind) flaw.line flaw.column

-- what standard error says beside a refusal of the input that is called so
abbrev pub note_of : List ℕ → Refusal → List ℕ
note_of name (refusal.ReadFault fault) = unread_line name fault
note_of name _ = []

-- of an answer to it
abbrev pub note_on : {T : Type 0} → List ℕ → Result T Refusal → List ℕ
note_on name (Ok found) = []
note_on name (Err why) = note_of name why

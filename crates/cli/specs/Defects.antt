-- What is wrong with a machine file as a whole, as standard error says it.
use Rattle.std.specs.Prelude.{◌<◌, ◌≤◌, ℕ, List, length, Some, None, codes}
use Rattle.clap.specs.Words.{Text}
use Rattle.json_text.specs.Flaws.{IsFlawIn}
use Rattle.machine.specs.declared.TheConstants.{MAX_BYTES}
use Rattle.program_io.specs.ErrorLine.{error_line}
use Rattle.answers.specs.Notes.{flaw_line}
use Rattle.cli.specs.declared.defect.Defect.{Defect}
use Rattle.cli.specs.declared.defect.Defect.TheVariants.{TooLong, NoJson, NoObject, Unseen}

-- it is too long; else it is no JSON, or it is JSON; or there was no memory to tell
abbrev pub IsDefectOf : List ℕ → Defect → Type 0
IsDefectOf text TooLong = MAX_BYTES < length text
IsDefectOf text (NoJson flaw) = (length text ≤ MAX_BYTES) × IsFlawIn text (Some flaw)
IsDefectOf text NoObject = (length text ≤ MAX_BYTES) × IsFlawIn text None
IsDefectOf text Unseen = length text ≤ MAX_BYTES

-- the line that says it of a file of this name
abbrev pub defect_line : Text → Defect → List ℕ
defect_line name TooLong = error_line name (codes "has more than 1048576 bytes")
defect_line name (NoJson flaw) = flaw_line name flaw
defect_line name NoObject = error_line name (codes "is no JSON object")
defect_line name Unseen = error_line name (codes "is no JSON object of at most 1048576 bytes")

-- What is found of bytes that ought to be JSON. Which line and column a flaw names is said of one that is cut short alone: JSON's
-- reader says no more of the others.
use Rattle.std.specs.Prelude.{◌≡◌, ℕ, ◌+◌, ◌==◌, ◌&&◌, ◌||◌, Bool, true, false, not, if◌then◌else◌, List, [], ◌∷◌, Option, Some, None, is_some}
use Rattle.std.specs.Str.{is_utf8}
use Rattle.json_text.specs.JsonOf.{json_of}
use Rattle.json_text.specs.declared.flaw.Flaw.{Flaw}
use Rattle.json_text.specs.declared.flaw.FlawKind.{FlawKind}
use Rattle.json_text.specs.declared.flaw.FlawKind.TheVariants.{NotUtf8, CutShort, NotJson}

-- it says that the bytes are not UTF-8
abbrev pub denies_utf8 : FlawKind → Bool
denies_utf8 NotUtf8 = true
denies_utf8 CutShort = false
denies_utf8 NotJson = false

-- the line and column behind one byte more: the start of the next line behind a line feed
abbrev pub place_behind : ℕ × ℕ → ℕ → ℕ × ℕ
place_behind place byte = if byte == 10 then (place.0 + 1, 0) else (place.0, place.1 + 1)

-- what stands from a place on, of bytes that begin behind another place; nothing if no byte stands there
abbrev pub from_place : ℕ × ℕ → ℕ × ℕ → List ℕ → List ℕ
from_place place behind [] = []
from_place place behind (byte ∷ rest) =
    if (place_behind behind byte).0 == place.0 && (place_behind behind byte).1 == place.1 then byte ∷ rest
    else from_place place (place_behind behind byte) rest

-- a quotation mark behind no backslash ends the string; a backslash behind another one counts for none
abbrev pub ends_string : Bool → List ℕ → Bool
ends_string escaped [] = false
ends_string escaped (byte ∷ rest) = not escaped && byte == 34 || ends_string (not escaped && byte == 92) rest

-- it is no string, or one that does not end
abbrev pub has_no_end : List ℕ → Bool
has_no_end [] = true
has_no_end (byte ∷ rest) = not (byte == 34 && ends_string false rest)

-- the text is said to be cut short only where no string that ends stands at the flaw's place
abbrev pub IsCutThere : List ℕ → Flaw → Type 0
IsCutThere bytes flaw = flaw.kind ≡ CutShort → has_no_end (from_place (flaw.line, flaw.column) (1, 0) bytes) ≡ true

-- nothing, where they are JSON; else a flaw, which says of bytes that are not UTF-8 that they are not, and of no others
abbrev pub IsFlawIn : List ℕ → Option Flaw → Type 0
IsFlawIn bytes None = is_some (json_of bytes) ≡ true
IsFlawIn bytes (Some flaw) = (json_of bytes ≡ None) × (denies_utf8 flaw.kind ≡ not (is_utf8 bytes)) × IsCutThere bytes flaw

-- The lines of a script, and the words of a line.
use Rattle.std.specs.Prelude.{ℕ, Bool, ◌||◌, ◌==◌, nat_lt, nat_le, if◌then◌else◌, List, ◌++◌, length, Option, None, Some}
use Rattle.std.specs.List.{filter, slice_split}
use Rattle.script.specs.declared.line_buffer.TheConstants.{MOST_LINE_BYTES}

-- a line feed ends a line
abbrev pub is_feed : ℕ → Bool
is_feed byte = byte == 10

-- what stands before the first line feed, between two of them, and behind the last
abbrev pub lines_of : List ℕ → List (List ℕ)
lines_of input = slice_split is_feed input

-- a space, a tab or a carriage return
abbrev pub is_blank : ℕ → Bool
is_blank byte = byte == 32 || (byte == 9 || byte == 13)

-- whether there is a byte in it
abbrev pub is_some_word : List ℕ → Bool
is_some_word word = nat_lt 0 (length word)

-- what stands between the blanks of a line, if that is anything
abbrev pub words_of : List ℕ → List (List ℕ)
words_of line = filter is_some_word (slice_split is_blank line)

-- the line, unless it has more than 8,192 bytes
abbrev pub line_kept : List ℕ → Option (List ℕ)
line_kept line = if nat_le (length line) MOST_LINE_BYTES then Some line else None

-- the line with a piece more behind it; one that is too long stays so
abbrev pub with_piece : Option (List ℕ) → List ℕ → Option (List ℕ)
with_piece None piece = None
with_piece (Some line) piece = line_kept (line ++ piece)

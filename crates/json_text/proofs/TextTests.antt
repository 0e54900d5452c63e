-- Which bytes are a text, and which text is no JSON.
use Rattle.std.proofs.Common.{◌≡◌, ◌<◌, ℕ, List, [], ◌∷◌, length, Some, None, refl, arith}
use Rattle.std.proofs.lemmas.Str.{IsUtf8-from_is_utf8, is_utf8-from_IsUtf8}
use Rattle.serde_json.specs.Data.{Data}
use Rattle.serde_json.specs.Read.{read}
use Rattle.serde_json.proofs.OnLiterals.{serde_json_on_literals}

-- from UTF-8 to its test and back
pub ruleset utf8_tests = (IsUtf8-from_is_utf8, is_utf8-from_IsUtf8)

-- no bytes are no JSON
read-nil : read [] ≡ None
unfolding serde_json_on_literals
read-nil = refl

pub some_bytes : (bytes : List ℕ) (d : Data) → read bytes ≡ Some d → 0 < length bytes
some_bytes [] d is = let none : read [] ≡ None = read-nil in cc
some_bytes (b ∷ bytes) d is = omega arith

pub ruleset no_bytes = (some_bytes)

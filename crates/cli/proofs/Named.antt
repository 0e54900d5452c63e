-- The name of the input that a command is given.
use Rattle.std.proofs.Common.{◌≡◌, Option, None, Some, Bor, codes, option_map, refl, unwrap_or}
use Rattle.clap.specs.Words.{Text}
use Rattle.answers.specs.Named.{name_of}
use Rattle.command_line.specs.Asked.{word_bytes}

-- the name that a check is given, or the hyphen
pub name_of-or_hyphen : (file : Option (Bor Text)) (hyphen : Bor Text) → hyphen.now ≡ codes "-" → (unwrap_or file hyphen).now ≡ name_of (option_map word_bytes file)
name_of-or_hyphen None hyphen e = e
name_of-or_hyphen (Some name) hyphen e = refl

use Rattle.std.proofs.Common.{◌≡◌, ◌<◌, ◌^◌, true, take}
use Rattle.std.specs.Char.{is_ascii_digit}
use Rattle.std.specs.List.{list_all}
use Rattle.std.specs.Str.Parse.{digits_value}
use Rattle.certificate_text.proofs.decimal.read_u64.Given as goal

abbrev pub invariant-loop-digit : goal.invariant-loop-digit
invariant-loop-digit l = (list_all is_ascii_digit (take l.digit-index l.word) ≡ true) × (l.number ≡ digits_value 10 (take l.digit-index l.word)) × (l.number < 2 ^ 64)

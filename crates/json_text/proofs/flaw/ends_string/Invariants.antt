use Rattle.std.proofs.Common.{◌≡◌, false, drop}
use Rattle.json_text.specs.Flaws.{ends_string}
use Rattle.json_text.proofs.flaw.ends_string.Given as goal

abbrev pub invariant-loop-byte : goal.invariant-loop-byte
invariant-loop-byte l = ends_string l.escaped (drop l.byte-index l.text) ≡ ends_string false l.text

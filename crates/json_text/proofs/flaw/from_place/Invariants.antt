use Rattle.std.proofs.Common.{◌≡◌, ◌+◌, ◌≤◌, drop}
use Rattle.json_text.specs.Flaws.{from_place}
use Rattle.json_text.proofs.flaw.from_place.Given as goal

abbrev pub invariant-loop-at : goal.invariant-loop-at
invariant-loop-at l = (from_place l.place l.behind (drop l.at l.bytes) ≡ from_place l.place (1, 0) l.bytes) × (l.behind.0 + l.behind.1 ≤ l.at + 1)

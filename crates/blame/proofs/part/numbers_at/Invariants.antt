use Rattle.std.proofs.Common.{◌≡◌, map, take}
use Rattle.blame.specs.Parts.{number_at}
use Rattle.blame.proofs.part.numbers_at.Given as goal

abbrev pub invariant-loop-at : goal.invariant-loop-at
invariant-loop-at l = l.found.items ≡ map (number_at l.numbers) (take l.at-index l.places)

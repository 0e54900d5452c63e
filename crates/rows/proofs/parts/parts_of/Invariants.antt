use Rattle.std.proofs.Common.{◌≡◌, take}
use Rattle.std.specs.List.{flat_map}
use Rattle.rows.specs.Scaled.{parted}
use Rattle.rows.proofs.parts.parts_of.Given as goal

abbrev pub invariant-loop-at : goal.invariant-loop-at
invariant-loop-at l = l.parts ≡ flat_map (parted l.held) (take l.at l.offers)

use Rattle.std.proofs.Common.{◌&&◌, not}
use Rattle.std.specs.Prelude.{bit_and}
use Rattle.std.specs.Int.{bit_not, w64}
use Rattle.std.specs.FinSet as set
use Rattle.cpu_set.specs.PointwiseLaws.{contains-difference}
use Rattle.cpu_set.proofs.Combined.{AreWords-lanes, set_of_words-lanes, without, without-IsBitwise, zip2-map}
use Rattle.cpu_set.proofs.id_set.IdSet.minus.Goals as goal

pub of_lanes-requires : goal.of_lanes-requires
of_lanes-requires c = rw (zip2-map bit_and (bit_not w64)) (AreWords-lanes without (λ a b. a && not b) _ _ without-IsBitwise c.lanes.ensures.words c.lanes-2.ensures.words)

pub returns : goal.returns
returns c = rw (c.of_lanes.ensures, ← c.lanes.ensures.numbers, ← c.lanes-2.ensures.numbers, zip2-map bit_and (bit_not w64)) (set_of_words-lanes without (λ a b. a && not b) set.difference contains-difference _ _ without-IsBitwise c.lanes.ensures.words c.lanes-2.ensures.words)

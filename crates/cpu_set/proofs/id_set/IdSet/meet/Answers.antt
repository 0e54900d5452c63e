use Rattle.std.proofs.Common.{◌&&◌}
use Rattle.std.specs.Prelude.{bit_and}
use Rattle.std.specs.FinSet as set
use Rattle.cpu_set.specs.PointwiseLaws.{contains-intersection}
use Rattle.cpu_set.proofs.Combined.{AreWords-lanes, set_of_words-lanes, and-IsBitwise}
use Rattle.cpu_set.proofs.id_set.IdSet.meet.Goals as goal

pub of_lanes-requires : goal.of_lanes-requires
of_lanes-requires c = AreWords-lanes bit_and (λ a b. a && b) _ _ and-IsBitwise c.lanes.ensures.words c.lanes-2.ensures.words

pub returns : goal.returns
returns c = rw (c.of_lanes.ensures, ← c.lanes.ensures.numbers, ← c.lanes-2.ensures.numbers) (set_of_words-lanes bit_and (λ a b. a && b) set.intersection contains-intersection _ _ and-IsBitwise c.lanes.ensures.words c.lanes-2.ensures.words)

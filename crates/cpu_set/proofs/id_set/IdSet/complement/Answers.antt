use Rattle.cpu_set.proofs.Combined.{AreWords-not, IsComplement-not}
use Rattle.cpu_set.proofs.id_set.IdSet.complement.Goals as goal

pub of_lanes-requires : goal.of_lanes-requires
of_lanes-requires c = AreWords-not _ c.lanes.ensures.words

pub returns : goal.returns
returns c = rw (c.of_lanes.ensures, ← c.lanes.ensures.numbers) (IsComplement-not _ c.lanes.ensures.words)

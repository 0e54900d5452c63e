use Rattle.byte_output.specs.GatheringLemmas.{gathers_room}
use Rattle.byte_output.proofs.buffer.Buffer.add.Goals as goal

pub returns-then-take : goal.returns-then-take
returns-then-take g c = gathers_room _ _ _ _ (c.take.ensures.taken c.if-take.true)

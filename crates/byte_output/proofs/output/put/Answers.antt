use Rattle.std.proofs.lemmas.List.{take_rest}
use Rattle.byte_output.specs.SendingLemmas.{HasSent-more}
use Rattle.byte_output.proofs.output.put.Goals as goal

pub loop-rest-preserved : goal.loop-rest-preserved
loop-rest-preserved g c =
    rw take_rest (HasSent-more _ _ _ _ _ _ c.loop-rest.invariant c.in_ok-taken.ensures.bytes)

use Rattle.byte_output.specs.GatheringLemmas.{gathers_all}
use Rattle.certificate_text.proofs.HeldItems.{on_ok}
use Rattle.certificate_text.proofs.writing.write_text_body.Goals as goal

pub returns-clause-written : goal.returns-clause-written
returns-clause-written g c = gathers_all _ _ _ c.send.result _ _ (rw c.new-buffer.ensures at c.in_ok-add_text.ensures.written) c.send.ensures.written

pub returns-clause-held : goal.returns-clause-held
returns-clause-held g c = on_ok _ c.send.result c.in_ok-add_text.ensures.held

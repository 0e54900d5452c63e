use Rattle.byte_output.specs.GatheringLemmas.{gathers_all}
use Rattle.cpu_list.proofs.writing.write_list.Goals as goal

pub returns : goal.returns
returns g c = gathers_all _ _ _ c.send.result _ _ (rw c.new-buffer.ensures at c.in_ok-add_list.ensures) c.send.ensures.written

use Rattle.std.proofs.Common.{Ok, Err, refl}
use Rattle.script.specs.WrittenLemmas.{Replies-written}
use Rattle.runtime.specs.Answered.{AnswersOnline}
use Rattle.runtime.specs.AnswerTexts.{done_line, of_kernel_fault}
use Rattle.runtime.specs.RefusalLine.{refusal_line}
use Rattle.runtime.proofs.events.online.Goals as goal

pub returns-in-Ok : goal.returns-in-Ok
returns-in-Ok g c =
    Replies-written (AnswersOnline c.args.node.now c.args.cpu) _ _ _ _ (done_line tt) (Ok tt, c.in-Ok.ensures.event, c.in-Ok.ensures.rest, refl) c.put_done.ensures

pub returns-in-Err : goal.returns-in-Err
returns-in-Err g c =
    Replies-written (AnswersOnline c.args.node.now c.args.cpu) _ _ _ _ (refusal_line (of_kernel_fault c.in-Err.fault)) (Err c.in-Err.fault, c.in-Err.ensures.event, c.in-Err.ensures.rest, refl)
    (rw c.from.ensures at c.write.ensures)

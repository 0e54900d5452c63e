use Rattle.std.proofs.Common.{Ok, Err, refl}
use Rattle.script.specs.WrittenLemmas.{Replies-written}
use Rattle.runtime.specs.Answered.{AnswersFork}
use Rattle.runtime.specs.AnswerTexts.{pid_line, of_kernel}
use Rattle.runtime.specs.RefusalLine.{refusal_line}
use Rattle.runtime.proofs.events.fork.Goals as goal

pub returns-in-Ok : goal.returns-in-Ok
returns-in-Ok g c =
    Replies-written (AnswersFork c.args.node.now c.args.pid) _ _ _ _ (pid_line c.in-Ok.child) (Ok c.in-Ok.child, c.in-Ok.ensures.event, c.in-Ok.ensures.rest, refl) c.put_pid.ensures

pub returns-in-Err : goal.returns-in-Err
returns-in-Err g c =
    Replies-written (AnswersFork c.args.node.now c.args.pid) _ _ _ _ (refusal_line (of_kernel c.in-Err.error)) (Err c.in-Err.error, c.in-Err.ensures.event, c.in-Err.ensures.rest, refl)
    (rw c.from.ensures at c.write.ensures)

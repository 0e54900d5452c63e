use Rattle.std.proofs.Common.{Some, Ok, Err, refl}
use Rattle.script.specs.WrittenLemmas.{Replies-written}
use Rattle.runtime.specs.Answered.{AnswersFound}
use Rattle.runtime.specs.AnswerTexts.{of_either, pid_line}
use Rattle.runtime.specs.RefusalLine.{refusal_line}
use Rattle.runtime.proofs.commands.create_from.Goals as goal

pub returns-in-Ok : goal.returns-in-Ok
returns-in-Ok g c =
    Replies-written (AnswersFound c.args.node.now c.args.id.now c.args.bundle.now (Some c.args.config.now)) _ _ _ _ (pid_line c.in-Ok.pid)
    (Ok c.in-Ok.pid, c.in-Ok.ensures.creates, c.in-Ok.ensures.made, refl) c.put_pid.ensures

pub returns-in-Err : goal.returns-in-Err
returns-in-Err g c =
    Replies-written (AnswersFound c.args.node.now c.args.id.now c.args.bundle.now (Some c.args.config.now)) _ _ _ _ (refusal_line (of_either c.in-Err.error))
    (Err c.in-Err.error, c.in-Err.ensures.creates, c.in-Err.ensures.made, refl) (rw c.refused_config.ensures at c.write.ensures)

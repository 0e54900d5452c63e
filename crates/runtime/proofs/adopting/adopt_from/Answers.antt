use Rattle.std.proofs.Common.{Some, Ok, Err, refl}
use Rattle.script.specs.WrittenLemmas.{Replies-written}
use Rattle.runtime.specs.Answered.{AnswersTaken}
use Rattle.runtime.specs.AnswerTexts.{of_either, pid_line}
use Rattle.runtime.specs.RefusalLine.{refusal_line}
use Rattle.runtime.proofs.adopting.adopt_from.Goals as goal

pub returns-in-Err : goal.returns-in-Err
returns-in-Err g c =
    Replies-written (AnswersTaken c.args.node.now c.args.id.now c.args.bundle.now c.args.list.now (Some c.args.config.now)) _ _ _ _ (refusal_line c.in-Err.why)
    (Err c.in-Err.why, c.in-Err.ensures, (refl, refl)) c.write.ensures

pub returns-in-Ok-adopt : goal.returns-in-Ok-adopt
returns-in-Ok-adopt g c =
    Replies-written (AnswersTaken c.args.node.now c.args.id.now c.args.bundle.now c.args.list.now (Some c.args.config.now)) _ _ _ _ (pid_line c.in-Ok-adopt.pid)
    (Ok c.in-Ok.cpus, c.in-Ok.ensures, (Ok c.in-Ok-adopt.pid, c.in-Ok-adopt.ensures.adopts, c.in-Ok-adopt.ensures.made, refl)) c.put_pid.ensures

pub returns-in-Err-adopt : goal.returns-in-Err-adopt
returns-in-Err-adopt g c =
    Replies-written (AnswersTaken c.args.node.now c.args.id.now c.args.bundle.now c.args.list.now (Some c.args.config.now)) _ _ _ _ (refusal_line (of_either c.in-Err-adopt.error))
    (Ok c.in-Ok.cpus, c.in-Ok.ensures, (Err c.in-Err-adopt.error, c.in-Err-adopt.ensures.adopts, c.in-Err-adopt.ensures.made, refl))
    (rw c.refused_config.ensures at c.write-in-Err-adopt.ensures)

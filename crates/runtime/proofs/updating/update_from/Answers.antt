use Rattle.std.proofs.Common.{Some, Ok, Err, refl}
use Rattle.script.specs.WrittenLemmas.{Replies-written}
use Rattle.runtime.specs.Answered.{AnswersRead}
use Rattle.runtime.specs.AnswerTexts.{of_either, done_line}
use Rattle.runtime.specs.RefusalLine.{refusal_line}
use Rattle.runtime.proofs.updating.update_from.Goals as goal

pub returns-in-Ok : goal.returns-in-Ok
returns-in-Ok g c =
    Replies-written (AnswersRead c.args.node.now c.args.id.now c.args.bundle.now (Some c.args.config.now)) _ _ _ _ (done_line tt)
    (Ok tt, c.in-Ok.ensures.updates, refl) c.put_done.ensures

pub returns-in-Err : goal.returns-in-Err
returns-in-Err g c =
    Replies-written (AnswersRead c.args.node.now c.args.id.now c.args.bundle.now (Some c.args.config.now)) _ _ _ _ (refusal_line (of_either c.in-Err.error))
    (Err c.in-Err.error, c.in-Err.ensures.updates, refl) (rw c.refused_config.ensures at c.write.ensures)

use Rattle.std.proofs.Common.{Ok, Err, refl}
use Rattle.script.specs.WrittenLemmas.{Replies-written}
use Rattle.runtime.specs.Answered.{AnswersDelete}
use Rattle.runtime.specs.AnswerTexts.{done_line}
use Rattle.runtime.specs.RefusalLine.{refusal_line}
use Rattle.runtime.specs.declared.refusal.Refusal.TheVariants.{Node}
use Rattle.runtime.proofs.commands.delete.Goals as goal

pub returns-in-Ok : goal.returns-in-Ok
returns-in-Ok g c =
    Replies-written (AnswersDelete c.args.node.now c.args.id.now) _ _ _ _ (done_line tt) (Ok tt, c.in-Ok.ensures.deletes, refl) c.put_done.ensures

pub returns-in-Err : goal.returns-in-Err
returns-in-Err g c =
    Replies-written (AnswersDelete c.args.node.now c.args.id.now) _ _ _ _ (refusal_line (Node c.in-Err.fault)) (Err c.in-Err.fault, c.in-Err.ensures.deletes, refl) c.write.ensures

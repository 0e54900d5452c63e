use Rattle.std.proofs.Common.{Ok, Err, refl}
use Rattle.script.specs.WrittenLemmas.{Replies-written}
use Rattle.runtime.specs.Answered.{AnswersStart}
use Rattle.runtime.specs.AnswerTexts.{done_line}
use Rattle.runtime.specs.RefusalLine.{refusal_line}
use Rattle.runtime.specs.declared.refusal.Refusal.TheVariants.{Node}
use Rattle.runtime.proofs.commands.start.Goals as goal

pub returns-in-Ok : goal.returns-in-Ok
returns-in-Ok g c =
    Replies-written (AnswersStart c.args.node.now c.args.id.now) _ _ _ _ (done_line tt) (Ok tt, c.in-Ok.ensures, refl) c.put_done.ensures

pub returns-in-Err : goal.returns-in-Err
returns-in-Err g c =
    Replies-written (AnswersStart c.args.node.now c.args.id.now) _ _ _ _ (refusal_line (Node c.in-Err.fault)) (Err c.in-Err.fault, c.in-Err.ensures, refl) c.write.ensures

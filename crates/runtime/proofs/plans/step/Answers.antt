use Rattle.std.proofs.Common.{Ok, Err, refl}
use Rattle.script.specs.WrittenLemmas.{Replies-written}
use Rattle.runtime.specs.Answered.{AnswersStep}
use Rattle.runtime.specs.OutcomeTexts.{progress_line}
use Rattle.runtime.specs.RefusalLine.{refusal_line}
use Rattle.runtime.specs.declared.refusal.Refusal.TheVariants.{Node}
use Rattle.runtime.proofs.plans.step.Goals as goal

pub returns-in-Ok : goal.returns-in-Ok
returns-in-Ok g c =
    Replies-written (AnswersStep c.args.node.now) _ _ _ _ (progress_line c.in-Ok.progress) (Ok c.in-Ok.progress, c.in-Ok.ensures.steps, refl) c.put_progress.ensures

pub returns-in-Err : goal.returns-in-Err
returns-in-Err g c =
    Replies-written (AnswersStep c.args.node.now) _ _ _ _ (refusal_line (Node c.in-Err.fault)) (Err c.in-Err.fault, c.in-Err.ensures.steps, refl) c.write.ensures

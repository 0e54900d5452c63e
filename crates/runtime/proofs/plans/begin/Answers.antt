use Rattle.std.proofs.Common.{Ok, Err, refl, false}
use Rattle.script.specs.WrittenLemmas.{Replies-written}
use Rattle.runtime.specs.Answered.{AnswersBegin}
use Rattle.runtime.specs.AnswerTexts.{of_either}
use Rattle.runtime.specs.OutcomeTexts.{outcome_text}
use Rattle.runtime.specs.RefusalLine.{refusal_line}
use Rattle.node.specs.declared.order.Order.TheVariants.{InTurn}
use Rattle.runtime.proofs.NamedLines.{begun_last}
use Rattle.runtime.proofs.plans.begin.Goals as goal

pub put_outcome-requires : goal.put_outcome-requires
put_outcome-requires g c = begun_last InTurn c.args.node.now c.begin.new.self c.in-Ok.outcome c.in-Ok.ensures

pub returns-in-Ok : goal.returns-in-Ok
returns-in-Ok g c =
    Replies-written (AnswersBegin false c.args.node.now) _ _ _ _ (outcome_text c.begin.new.self c.in-Ok.outcome) (Ok c.in-Ok.outcome, c.in-Ok.ensures, refl) c.put_outcome.ensures

pub returns-in-Err : goal.returns-in-Err
returns-in-Err g c =
    Replies-written (AnswersBegin false c.args.node.now) _ _ _ _ (refusal_line (of_either c.in-Err.error)) (Err c.in-Err.error, c.in-Err.ensures, refl) (rw c.from.ensures at c.write.ensures)

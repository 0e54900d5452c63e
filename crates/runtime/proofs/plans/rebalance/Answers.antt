use Rattle.std.proofs.Common.{Ok, Err, refl, false}
use Rattle.script.specs.WrittenLemmas.{Replies-written}
use Rattle.runtime.specs.Answered.{AnswersRebalance}
use Rattle.runtime.specs.AnswerTexts.{of_either}
use Rattle.runtime.specs.OutcomeTexts.{outcome_text}
use Rattle.runtime.specs.RefusalLine.{refusal_line}
use Rattle.runtime.proofs.NamedLines.{rebalanced_last}
use Rattle.runtime.proofs.plans.rebalance.Goals as goal

pub put_outcome-requires : goal.put_outcome-requires
put_outcome-requires g c = rebalanced_last c.args.node.now c.rebalance.new.self c.in-Ok.outcome c.in-Ok.ensures.told

pub returns-in-Ok : goal.returns-in-Ok
returns-in-Ok g c =
    Replies-written (AnswersRebalance false c.args.node.now) _ _ _ _ (outcome_text c.rebalance.new.self c.in-Ok.outcome) (Ok c.in-Ok.outcome, c.in-Ok.ensures.rebalances, refl) c.put_outcome.ensures

pub returns-in-Err : goal.returns-in-Err
returns-in-Err g c =
    Replies-written (AnswersRebalance false c.args.node.now) _ _ _ _ (refusal_line (of_either c.in-Err.error)) (Err c.in-Err.error, c.in-Err.ensures.rebalances, refl) (rw c.from.ensures at c.write.ensures)

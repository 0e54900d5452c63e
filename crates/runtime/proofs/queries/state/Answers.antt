use Rattle.std.proofs.Common.{Ok, Err, refl}
use Rattle.script.specs.WrittenLemmas.{Replies-written}
use Rattle.runtime.specs.Answered.{AnswersState, state_line}
use Rattle.runtime.specs.AnswerTexts.{of_either}
use Rattle.runtime.specs.RefusalLine.{refusal_line}
use Rattle.runtime.proofs.queries.state.Goals as goal

pub returns-in-Ok : goal.returns-in-Ok
returns-in-Ok g c =
    Replies-written (AnswersState c.args.node.now c.args.id.now) _ _ _ _ (state_line c.in-Ok.text) (Ok c.in-Ok.text, c.in-Ok.ensures, refl, refl) c.put_state.ensures

pub returns-in-Err : goal.returns-in-Err
returns-in-Err g c =
    Replies-written (AnswersState c.args.node.now c.args.id.now) _ _ _ _ (refusal_line (of_either c.in-Err.error)) (Err c.in-Err.error, c.in-Err.ensures, refl, refl)
    (rw c.from.ensures at c.write.ensures)

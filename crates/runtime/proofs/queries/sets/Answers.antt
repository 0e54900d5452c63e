use Rattle.std.proofs.Common.{Ok, Err, refl}
use Rattle.script.specs.WrittenLemmas.{Replies-written}
use Rattle.runtime.specs.Answered.{AnswersSets}
use Rattle.runtime.specs.AnswerTexts.{sets_line}
use Rattle.runtime.specs.RefusalLine.{refusal_line}
use Rattle.runtime.specs.declared.refusal.Refusal.TheVariants.{Node}
use Rattle.runtime.proofs.queries.sets.Goals as goal

pub returns-in-Ok : goal.returns-in-Ok
returns-in-Ok g c =
    Replies-written (AnswersSets c.args.node.now c.args.id.now) _ _ _ _ (sets_line c.in-Ok.sets) (Ok c.in-Ok.sets, c.in-Ok.ensures, refl, refl) c.put_sets.ensures

pub returns-in-Err : goal.returns-in-Err
returns-in-Err g c =
    Replies-written (AnswersSets c.args.node.now c.args.id.now) _ _ _ _ (refusal_line (Node c.in-Err.fault)) (Err c.in-Err.fault, c.in-Err.ensures, refl, refl) c.write.ensures

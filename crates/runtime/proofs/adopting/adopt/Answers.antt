use Rattle.std.proofs.Common.{inl, inr, None, refl}
use Rattle.script.specs.WrittenLemmas.{Replies-written}
use Rattle.runtime.specs.Answered.{AnswersAdopt}
use Rattle.runtime.specs.Found.{IsSeen}
use Rattle.runtime.specs.RefusalLine.{refusal_line}
use Rattle.runtime.specs.declared.refusal.Refusal.TheVariants.{Memory, NoBundle}
use Rattle.runtime.proofs.adopting.adopt.Goals as goal

pub returns-in-Ok-None-clause-answers : goal.returns-in-Ok-None-clause-answers
returns-in-Ok-None-clause-answers g c =
    Replies-written (AnswersAdopt (IsSeen g.B.Bundles.finds (g.B.Bundles.told c.args.bundles.now)) c.args.node.now c.args.id.now c.args.bundle.now c.args.list.now) _ _ _ _ (refusal_line NoBundle)
    (inr (None, (rw c.in-Ok-None.field-0-is at c.in-Ok-None.ensures.found, rw c.in-Ok-None.field-0-is at c.in-Ok-None.ensures.seen), (refl, refl))) c.write.ensures

pub returns-in-Err-clause-answers : goal.returns-in-Err-clause-answers
returns-in-Err-clause-answers g c =
    Replies-written (AnswersAdopt (IsSeen g.B.Bundles.finds (g.B.Bundles.told c.args.bundles.now)) c.args.node.now c.args.id.now c.args.bundle.now c.args.list.now) _ _ _ _ (refusal_line Memory)
    (inl (refl, refl)) c.write-in-Err.ensures

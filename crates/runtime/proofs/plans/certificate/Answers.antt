use Rattle.std.proofs.Common.{Ok, Err, refl}
use Rattle.script.specs.WrittenLemmas.{Replies-written}
use Rattle.certificate_text.specs.Written.{text_of}
use Rattle.runtime.specs.Answered.{AnswersCertificate}
use Rattle.runtime.specs.RefusalLine.{refusal_line}
use Rattle.runtime.specs.declared.refusal.Refusal.TheVariants.{Node}
use Rattle.runtime.proofs.plans.certificate.Goals as goal

pub returns-in-Ok : goal.returns-in-Ok
returns-in-Ok g c =
    Replies-written (AnswersCertificate c.args.node.now) _ _ _ _ (text_of c.in-Ok.certificate.now) (Ok c.in-Ok.certificate.now, c.in-Ok.ensures.shows, refl, refl) c.write_text.ensures.written

pub returns-in-Err : goal.returns-in-Err
returns-in-Err g c =
    Replies-written (AnswersCertificate c.args.node.now) _ _ _ _ (refusal_line (Node c.in-Err.fault)) (Err c.in-Err.fault, c.in-Err.ensures.shows, refl, refl) c.write.ensures

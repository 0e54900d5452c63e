use Rattle.std.proofs.Common.{refl}
use Rattle.script.specs.WrittenLemmas.{Replies-written}
use Rattle.runtime.specs.Answered.{AnswersForget}
use Rattle.runtime.specs.RefusalLine.{refusal_line}
use Rattle.runtime.specs.declared.refusal.Refusal.TheVariants.{NoStranger}
use Rattle.runtime.proofs.commands.forget.Goals as goal

pub returns : goal.returns
returns g c = Replies-written (AnswersForget c.args.node.now) _ _ _ _ (refusal_line NoStranger) (refl, refl) c.write.ensures

use Rattle.kernel_model.specs.RefusalLemmas.{calls_are_free, refusals_have_causes}
use Rattle.kernel_model.proofs.laws.refusals.Goals as goal

pub returns : goal.returns
returns c = record { free = calls_are_free; causes = refusals_have_causes }

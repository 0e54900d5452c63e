use Rattle.program_io.specs.TakingLemmas.{TakesFront-written}
use Rattle.answers.proofs.console.write_stderr.Goals as goal

pub returns-else-is_ok : goal.returns-else-is_ok
returns-else-is_ok g c = TakesFront-written _ _ c.print.result _ c.print.ensures

-- The opening failed, for the reason that the system told.
use Rattle.std.proofs.Common.{Err, inr, refl}
use Rattle.std.specs.IoError.{error_kind}
use Rattle.faults.specs.declared.or_memory.OrMemory.TheVariants.{Fault}
use Rattle.answers.proofs.answer.answer_of.Goals as goal

pub returns-in-Err : goal.returns-in-Err
returns-in-Err g c = (Err (Fault c.from.result), inr (c.from.result, (error_kind c.in-Err.error, c.in-Err.ensures.err, c.from.ensures), refl), refl)

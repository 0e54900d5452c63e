-- The words are explained, or an allocation failed; and nothing was asked of any tree.
use Rattle.std.proofs.Common.{inl, inr}
use Rattle.clap.specs.Words.{kind_of}
use Rattle.cli.proofs.program.run_program.Goals as goal

pub returns : goal.returns
returns g c =
    let cause = rw c.in-Err-Fault.field-0-is at c.in-Err-Fault.ensures.err in
    inr (inl (kind_of c.in-Err-Fault.error, cause.0, cause.1, c.print_usage.ensures), λ how before held. held)

pub returns-in-Err-Memory : goal.returns-in-Err-Memory
returns-in-Err-Memory g c = inr (inr (rw c.in-Err-Memory.field-0-is at c.in-Err-Memory.ensures.err, c.print_then_note.ensures), λ how before held. held)

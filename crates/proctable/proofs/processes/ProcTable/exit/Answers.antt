use Rattle.std.proofs.Common.{sym, ap, ◌∙◌}
use Rattle.std.proofs.lemmas.Option.{same_Some}
use Rattle.std.specs.Prelude.{is_some}
use Rattle.proctable.specs.declared.processes.Process.{Process}
use Rattle.proctable.proofs.processes.ProcTable.exit.Goals as goal

pub end_alone-requires-clause-other : goal.end_alone-requires-clause-other
end_alone-requires-clause-other c = λ p at e.
    c.if-process-pid.false (ap (λ (x : Process). x.first) (same_Some c.in-Some.process p (c.in-Some.ensures ∙ at)) ∙ e)

pub end_alone-requires-clause-alive : goal.end_alone-requires-clause-alive
end_alone-requires-clause-alive c = ap is_some (sym c.in-Some.ensures)

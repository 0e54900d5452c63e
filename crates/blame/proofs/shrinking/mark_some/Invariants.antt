use Rattle.certificate.specs.IsShortage.{IsShortage}
use Rattle.blame.proofs.shrinking.mark_some.Given as goal

abbrev pub invariant-loop-step : goal.invariant-loop-step
invariant-loop-step l = IsShortage l.problem l.few.items

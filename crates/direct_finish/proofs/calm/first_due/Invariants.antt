use Rattle.direct_finish.specs.Seen.{IsNobodys}
use Rattle.direct_finish.proofs.calm.first_due.Given as goal

-- it is nobody's turn before this place
abbrev pub invariant-loop-place : goal.invariant-loop-place
invariant-loop-place l = IsNobodys l.aside l.standings l.place

use Rattle.std.proofs.Common.{get_or, ℕ, ◌<◌, ◌≤◌}
use Rattle.certificate.proofs.value_checks.first_in_range.Given as goal

abbrev pub invariant-loop-cpu : goal.invariant-loop-cpu
invariant-loop-cpu l = (l.first ≤ l.cpu) × ((q : ℕ) → l.first ≤ q → q < l.cpu → l.amount ≤ get_or l.amounts q 0)

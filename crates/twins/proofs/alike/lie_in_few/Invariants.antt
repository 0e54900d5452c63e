use Rattle.std.proofs.Common.{◌≡◌, ℕ, ◌≤◌, true, Some, List}
use Rattle.std.specs.FinSet as set
use Rattle.certificate.specs.Weight.{weight_in}
use Rattle.certificate.specs.declared.rows.Offer.{Offer}
use Rattle.twins.specs.AreSpans.{IsSpan, AreSpans}
use Rattle.twins.proofs.alike.lie_in_few.Given as goal

-- the CPUs up to here have the weight
abbrev pub invariant-loop : goal.invariant-loop
invariant-loop l =
    (offers : List Offer) → AreSpans offers l.spans → IsSpan offers l.span
    → (cpu : ℕ) → set.contains l.cpus cpu ≡ true → cpu ≤ l.upto → weight_in offers cpu ≡ Some l.span.weight

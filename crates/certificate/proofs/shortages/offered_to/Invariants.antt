use Rattle.std.proofs.Common.{◌≡◌, ℕ, take}
use Rattle.std.specs.FinSet as set
use Rattle.certificate.specs.IsShortage.{chosen, is_offered}
use Rattle.certificate.proofs.shortages.offered_to.Given as goal

abbrev pub invariant-loop-k : goal.invariant-loop-k
invariant-loop-k l = (cpu : ℕ) → set.contains l.offered cpu ≡ is_offered (chosen l.rows (take l.k-index l.members)) cpu

use Rattle.std.proofs.Common.{◌≡◌, ◌*◌, ◌≤◌, take}
use Rattle.certificate.specs.IsShortage.{chosen, asked}
use Rattle.certificate.specs.declared.limits.TheConstants.{MAX_DEMAND}
use Rattle.certificate.proofs.shortages.asked_by.Given as goal

abbrev pub invariant-loop-k : goal.invariant-loop-k
invariant-loop-k l = record {
  sum : l.asked ≡ asked (chosen l.rows (take l.k-index l.members));
  small : l.asked ≤ l.k-index * MAX_DEMAND;
}

use Rattle.std.proofs.Common.{◌≡◌, ℕ, take}
use Rattle.std.specs.FinSet as set
use Rattle.certificate.specs.IsShortage.{is_offered}
use Rattle.twins.specs.RowCpus.{AreRowCpus}
use Rattle.twins.proofs.SettledCpus.{AreCounted}
use Rattle.twins.proofs.grouping.offered_cpus.Given as goal

abbrev pub invariant-loop-k : goal.invariant-loop-k
invariant-loop-k l = record {
  offered : (cpu : ℕ) → set.contains l.offered cpu ≡ is_offered (take l.k l.rows) cpu;
  counted : AreCounted l.rows l.k l.offered l.twice;
  sets : AreRowCpus l.rows l.kinds l.k l.sets.items;
}

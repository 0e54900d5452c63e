use Rattle.std.proofs.Common.{◌*◌}
use Rattle.std.specs.FinSet as finset
use Rattle.cpu_set.proofs.Finding.{NoneBetween}
use Rattle.cpu_set.proofs.spanned.Spanned.first_common.Given as goal

abbrev pub invariant-loop-k : goal.invariant-loop-k
invariant-loop-k l = NoneBetween (finset.intersection l.self l.other) 0 (l.k * 64)

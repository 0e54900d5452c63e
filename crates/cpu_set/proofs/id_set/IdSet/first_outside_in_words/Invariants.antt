use Rattle.std.proofs.Common.{◌*◌}
use Rattle.std.specs.FinSet as finset
use Rattle.cpu_set.proofs.Finding.{NoneBetween}
use Rattle.cpu_set.proofs.id_set.IdSet.first_outside_in_words.Given as goal

abbrev pub invariant-loop-k : goal.invariant-loop-k
invariant-loop-k l = NoneBetween (finset.difference l.self l.other) (l.from * 64) (l.k * 64)

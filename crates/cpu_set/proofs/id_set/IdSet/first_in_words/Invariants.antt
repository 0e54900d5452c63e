use Rattle.std.proofs.Common.{◌*◌}
use Rattle.cpu_set.specs.Words.{set_of_words}
use Rattle.cpu_set.proofs.Finding.{NoneBetween}
use Rattle.cpu_set.proofs.id_set.IdSet.first_in_words.Given as goal

abbrev pub invariant-loop-k : goal.invariant-loop-k
invariant-loop-k l = NoneBetween (set_of_words l.self-inside.words) (l.from * 64) (l.k * 64)

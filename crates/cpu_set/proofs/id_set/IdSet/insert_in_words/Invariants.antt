use Rattle.cpu_set.proofs.Combined.{IsFilled}
use Rattle.cpu_set.proofs.id_set.IdSet.insert_in_words.Given as goal

abbrev pub invariant-loop-k : goal.invariant-loop-k
invariant-loop-k l = IsFilled l.initial.self-inside.words l.self-inside.words l.first l.last l.k

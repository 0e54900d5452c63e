use Rattle.std.proofs.Common.{◌*◌, ◌≤◌}
use Rattle.cpu_set.specs.Ids.{NoneFrom}
use Rattle.cpu_set.specs.Words.{set_of_words}
use Rattle.cpu_set.specs.declared.id_set.TheConstants.{WORDS}
use Rattle.cpu_set.proofs.id_set.IdSet.last.Given as goal

abbrev pub invariant-loop-k : goal.invariant-loop-k
invariant-loop-k l = record {
  within : l.k ≤ WORDS;
  none : NoneFrom (set_of_words l.self-inside.words) (l.k * 64);
}

abbrev pub decreases-loop-k : goal.decreases-loop-k
decreases-loop-k l = l.k

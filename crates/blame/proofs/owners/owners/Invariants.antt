use Rattle.std.proofs.Common.{◌≡◌, length}
use Rattle.cpu_set.specs.declared.TheConstants.{CPU_LIMIT}
use Rattle.blame.proofs.OwnerLemmas.{AreOwnersUpTo}
use Rattle.blame.proofs.owners.owners.Given as goal

abbrev pub invariant-loop-i : goal.invariant-loop-i
invariant-loop-i l = record {
  so_far : AreOwnersUpTo l.numbers l.sets l.nobody l.i l.own.items;
  long : length l.own.items ≡ CPU_LIMIT;
}

use Rattle.std.proofs.Common.{◌≡◌, length}
use Rattle.std.specs.FinSet as set
use Rattle.cpu_set.specs.declared.TheConstants.{CPU_LIMIT}
use Rattle.blame.proofs.OwnerLemmas.{IsNoted}
use Rattle.blame.proofs.owners.note.Given as goal

abbrev pub invariant-loop-cpu : goal.invariant-loop-cpu
invariant-loop-cpu l = record {
  noted : IsNoted l.cpus l.left l.row l.initial.own.items l.own.items;
  long : length l.own.items ≡ CPU_LIMIT;
}

abbrev pub decreases-loop-cpu : goal.decreases-loop-cpu
decreases-loop-cpu l = set.len l.left

use Rattle.std.proofs.Common.{◌≡◌, length}
use Rattle.cpu_set.specs.declared.TheConstants.{CPU_LIMIT}
use Rattle.twins.specs.Kinds.{AreKinds}
use Rattle.twins.proofs.kinds.kinds_of.Given as goal

abbrev pub invariant-loop-k : goal.invariant-loop-k
invariant-loop-k l = record {
  kinds : AreKinds l.rows l.k l.kinds.items;
  latest : length l.latest.items ≡ CPU_LIMIT;
}

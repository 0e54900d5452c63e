use Rattle.std.proofs.Common.{◌≡◌, ◌+◌, ◌<◌, take}
use Rattle.std.specs.Prelude.{All}
use Rattle.twins.specs.Holdings.{shared_out}
use Rattle.network_simplex.proofs.room.fit.Given as goal

abbrev pub invariant-loop-k : goal.invariant-loop-k
invariant-loop-k l = record {
  rows_in : All (λ s. s.row < l.rows) (take l.k l.shares);
  room : shared_out (take l.k l.shares) + l.left ≡ l.size;
}

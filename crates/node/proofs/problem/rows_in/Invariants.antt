use Rattle.std.proofs.Common.{All}
use Rattle.rows.specs.CachedOffers.{IsCached}
use Rattle.node.proofs.AskingLemmas.{IsSoFar}
use Rattle.node.proofs.problem.rows_in.Given as goal

-- the rows so far, and the offers that were worked out for them
abbrev pub invariant-loop-id : goal.invariant-loop-id
invariant-loop-id g l = record {
  so_far : IsSoFar (g.K.Kernel.state l.kernel) l.machine l.containers.entries l.id-iterator l.rows.items;
  cache : All (IsCached l.machine) l.cache.items;
}

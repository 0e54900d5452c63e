use Rattle.std.proofs.Common.{◌≡◌, [], replicate}
use Rattle.transport.proofs.assignment.no_holders.Given as goal

abbrev pub invariant-loop : goal.invariant-loop
invariant-loop l = l.holdings.items ≡ replicate l.counter []

use Rattle.std.proofs.Common.{take}
use Rattle.transport.specs.Numbers.{IsRaised}
use Rattle.transport.proofs.duals.raise.Given as goal

abbrev pub invariant-loop-k : goal.invariant-loop-k
invariant-loop-k l = IsRaised l.initial.numbers l.numbers (take l.k-index l.order) l.by

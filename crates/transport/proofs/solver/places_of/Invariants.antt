use Rattle.std.proofs.Common.{◌≡◌, filter}
use Rattle.std.specs.List.{range_with_len}
use Rattle.transport.specs.Numbers.{is_marked}
use Rattle.transport.proofs.solver.places_of.Given as goal

abbrev pub invariant-loop-k : goal.invariant-loop-k
invariant-loop-k l = l.places.items ≡ filter (is_marked l.marks) (range_with_len 0 l.k)

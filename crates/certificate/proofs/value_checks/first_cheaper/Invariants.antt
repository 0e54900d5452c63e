use Rattle.cpu_set.specs.Least.{least_that}
use Rattle.cpu_set.specs.Ranges.{in_ranges}
use Rattle.std.proofs.Common.{get_or, nat_lt, take, ◌&&◌, ◌≡◌}
use Rattle.certificate.proofs.value_checks.first_cheaper.Given as goal

abbrev pub invariant-loop-range : goal.invariant-loop-range
invariant-loop-range l = l.least ≡ least_that (λ q. in_ranges (take l.range-index l.ranges) q && nat_lt (get_or l.amounts q 0) l.amount)

use Rattle.std.proofs.Common.{◌≡◌, ◌+◌, ◌++◌, map, take}
use Rattle.twins.specs.SpanCode.{span_of}
use Rattle.twins.proofs.span_list.write.Given as goal

-- the ranges before this one are written
abbrev pub invariant-loop-k : goal.invariant-loop-k
invariant-loop-k l = take (l.from + l.k) l.items ≡ take l.from l.fn.items ++ map (span_of l.weight) (take l.k l.ranges)

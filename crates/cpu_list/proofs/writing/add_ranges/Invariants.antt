use Rattle.std.proofs.Common.{drop, ◌++◌}
use Rattle.cpu_list.specs.CanonicalList.{ranges_text}
use Rattle.cpu_list.specs.TextAfter.{separator_of, text_after}
use Rattle.byte_output.specs.Sending.{HasSent}
use Rattle.cpu_list.proofs.writing.add_ranges.Given as goal

abbrev pub invariant-loop-range : goal.invariant-loop-range
invariant-loop-range g l =
    HasSent (g.W.Write.contents l.fn.w) (g.W.Write.contents l.w) (l.fn.buffer ++ ranges_text l.ranges) (l.buffer ++ text_after (separator_of l.is_behind) (drop l.range-index l.ranges))

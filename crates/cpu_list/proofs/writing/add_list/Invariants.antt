use Rattle.std.proofs.Common.{◌++◌}
use Rattle.cpu_list.specs.CanonicalList.{list_text}
use Rattle.cpu_list.specs.TextAfter.{separator_of, text_after}
use Rattle.byte_output.specs.Sending.{HasSent}
use Rattle.cpu_list.proofs.writing.add_list.Given as goal

abbrev pub invariant-loop-first : goal.invariant-loop-first
invariant-loop-first g l =
    (goal.iterator-loop-first g).can_next l.first-iterator ×
    (goal.iterator-loop-first g).is_finite l.first-iterator ×
    HasSent (g.W.Write.contents l.fn.w) (g.W.Write.contents l.w) (l.fn.buffer ++ list_text l.set) (l.buffer ++ text_after (separator_of l.is_behind) l.first-iterator)

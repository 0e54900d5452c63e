use Rattle.std.proofs.Common.{◌≡◌, ◌≤◌, ◌++◌, length, string_bytes}
use denote.Text.{Utf8}
use denote.Shadow.{shadow}
use Rattle.std.specs.String.{string_capacity, string_len}
use Rattle.cpu_list.specs.CanonicalList.{list_text}
use Rattle.cpu_list.specs.TextAfter.{text_after}
use Rattle.cgroup_tree.specs.declared.room.TheConstants.{LINE_ROOM}
use Rattle.cgroup_tree.proofs.line.write_line.Given as goal

abbrev pub invariant-loop-first : goal.invariant-loop-first
invariant-loop-first l =
    (goal.iterator-loop-first).can_next l.first-iterator ×
    (goal.iterator-loop-first).is_finite l.first-iterator ×
    shadow (Utf8 l.separator) ×
    (list_text l.ids ≡ string_bytes l.line ++ text_after l.separator l.first-iterator) ×
    (string_len l.line ≡ length (string_bytes l.line)) ×
    (LINE_ROOM ≤ string_capacity l.line) ×
    (string_capacity l.fn.line ≤ string_capacity l.line)

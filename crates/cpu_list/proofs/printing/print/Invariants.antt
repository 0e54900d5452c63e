use Rattle.std.proofs.Common.{◌≡◌, ◌++◌, string_bytes}
use denote.Text.{Utf8}
use denote.Shadow.{shadow}
use Rattle.cpu_list.specs.CanonicalList.{list_text}
use Rattle.cpu_list.specs.TextAfter.{text_after}
use Rattle.cpu_list.proofs.printing.print.Given as goal

abbrev pub invariant-loop-first : goal.invariant-loop-first
invariant-loop-first l =
    (goal.iterator-loop-first).can_next l.first-iterator ×
    (goal.iterator-loop-first).is_finite l.first-iterator ×
    shadow (Utf8 l.separator) ×
    (list_text l.set ≡ string_bytes l.text ++ text_after l.separator l.first-iterator)

use Rattle.std.proofs.Common.{◌≡◌, ◌+◌, drop}
use Rattle.std.specs.List.{prefix_len}
use Rattle.cpu_list.specs.ListText.{is_blank}
use Rattle.cpu_list.proofs.item.leading_blanks.Given as goal

abbrev pub invariant-loop-i : goal.invariant-loop-i
invariant-loop-i l = l.i + prefix_len is_blank (drop l.i l.piece) ≡ prefix_len is_blank l.piece

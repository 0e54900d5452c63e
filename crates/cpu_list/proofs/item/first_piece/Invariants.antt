use Rattle.std.proofs.Common.{◌≡◌, ◌+◌, drop}
use Rattle.std.specs.List.{position_or_len}
use Rattle.cpu_list.specs.ListText.{is_comma}
use Rattle.cpu_list.proofs.item.first_piece.Given as goal

abbrev pub invariant-loop-i : goal.invariant-loop-i
invariant-loop-i l = l.i + position_or_len is_comma (drop l.i l.text) ≡ position_or_len is_comma l.text

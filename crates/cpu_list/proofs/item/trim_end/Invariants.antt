use Rattle.std.proofs.Common.{◌≡◌, ◌≤◌, ◌+◌, length, take}
use Rattle.std.specs.List.{suffix_len}
use Rattle.cpu_list.specs.ListText.{is_blank}
use Rattle.cpu_list.proofs.item.trim_end.Given as goal

abbrev pub invariant-loop-end : goal.invariant-loop-end
invariant-loop-end l = record {
  in_piece : l.end ≤ length l.piece;
  left : l.end + suffix_len is_blank l.piece ≡ length l.piece + suffix_len is_blank (take l.end l.piece);
}

abbrev pub decreases-loop-end : goal.decreases-loop-end
decreases-loop-end l = l.end

use Rattle.std.proofs.Common.{◌-◌}
use Rattle.std.specs.List.{flat_map, range_with_len}
use Rattle.byte_output.specs.Sending.{HasSent}
use Rattle.answers.specs.SlitAnswer.{row_text}
use Rattle.answers.proofs.distances.write_rows.Given as goal

abbrev pub invariant-loop-i : goal.invariant-loop-i
invariant-loop-i g l = HasSent (g.W.Write.contents l.fn.w) (g.W.Write.contents l.w)
    (flat_map (row_text l.table) (range_with_len 0 l.table.localities))
    (flat_map (row_text l.table) (range_with_len l.i (l.table.localities - l.i)))

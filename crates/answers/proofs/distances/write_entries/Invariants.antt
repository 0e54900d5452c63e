use Rattle.std.proofs.Common.{◌-◌}
use Rattle.std.specs.List.{flat_map, range_with_len}
use Rattle.slit.specs.Table.{distance}
use Rattle.byte_output.specs.Sending.{HasSent}
use Rattle.answers.specs.SlitAnswer.{entry_text}
use Rattle.answers.proofs.distances.write_entries.Given as goal

abbrev pub invariant-loop-j : goal.invariant-loop-j
invariant-loop-j g l = HasSent (g.W.Write.contents l.fn.w) (g.W.Write.contents l.w)
    (flat_map (λ j. entry_text j (distance l.table l.i j)) (range_with_len 0 l.table.localities))
    (flat_map (λ j. entry_text j (distance l.table l.i j)) (range_with_len l.j (l.table.localities - l.j)))

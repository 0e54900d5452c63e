use Rattle.std.proofs.Common.{take}
use Rattle.std.specs.List.{flat_map}
use Rattle.byte_output.specs.Gathering.{HasGathered}
use Rattle.certificate_text.specs.Line.{RowLine}
use Rattle.certificate_text.specs.Written.{line_text, IsRowHeld}
use Rattle.certificate_text.proofs.HeldItems.{HoldUpTo}
use Rattle.certificate_text.proofs.writing.add_rows.Given as goal

abbrev pub invariant-loop-row : goal.invariant-loop-row
invariant-loop-row g l = record {
  sent : HasGathered (g.W.Write.contents l.fn.w) (g.W.Write.contents l.w) l.fn.buffer l.buffer (flat_map (λ row. line_text (RowLine row)) (take l.row-index l.rows));
  held : HoldUpTo IsRowHeld l.rows l.row-index;
}

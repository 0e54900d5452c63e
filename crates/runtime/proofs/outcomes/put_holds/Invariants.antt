use Rattle.std.proofs.Common.{drop}
use Rattle.std.specs.Prelude.{zip}
use Rattle.std.specs.List.{flat_map}
use Rattle.byte_output.specs.Sending.{HasSent}
use Rattle.runtime.specs.OutcomeTexts.{hold_line}
use Rattle.runtime.proofs.outcomes.put_holds.Given as goal

abbrev pub invariant-loop-k : goal.invariant-loop-k
invariant-loop-k g l =
    HasSent (g.W.Write.contents l.fn.w) (g.W.Write.contents l.w) (flat_map hold_line (zip l.rows l.sets)) (flat_map hold_line (zip (drop l.k l.rows) (drop l.k l.sets)))

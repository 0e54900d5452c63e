use Rattle.std.proofs.Common.{drop}
use Rattle.std.specs.List.{flat_map}
use Rattle.byte_output.specs.Sending.{HasSent}
use Rattle.runtime.specs.OutcomeTexts.{member_line}
use Rattle.runtime.proofs.outcomes.put_members.Given as goal

abbrev pub invariant-loop-k : goal.invariant-loop-k
invariant-loop-k g l =
    HasSent (g.W.Write.contents l.fn.w) (g.W.Write.contents l.w) (flat_map (member_line l.rows) l.members) (flat_map (member_line l.rows) (drop l.k-index l.members))

use Rattle.std.proofs.Common.{◌≡◌, []}
use Rattle.twins.proofs.Grouped.{Grouping}
use Rattle.twins.specs.RowCpus.{firsts_before}
use Rattle.twins.specs.Settled.{IsSettling}
use Rattle.twins.proofs.grouping.group_body.Given as goal

abbrev pub invariant-loop-k : goal.invariant-loop-k
invariant-loop-k l = record { grouping : Grouping l.rows l.k l.parts.waiting l.alone.items; done : l.parts.done ≡ []; settling : IsSettling l.rows l.k l.settling; kind : l.kind ≡ firsts_before l.kinds l.k }

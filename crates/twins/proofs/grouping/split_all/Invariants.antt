use Rattle.std.proofs.Common.{◌≡◌, ◌+◌, take}
use Rattle.twins.specs.AreSpans.{AreSpans}
use Rattle.twins.specs.IsPart.{ArePieces}
use Rattle.twins.specs.Settled.{IsSettling}
use Rattle.twins.proofs.grouping.split_all.Given as goal

abbrev pub invariant-loop-at : goal.invariant-loop-at
invariant-loop-at l = record {
  spans : AreSpans l.row-inside.offers l.spans;
  settling : IsSettling l.rows l.k l.settling;
  waiting : l.parts.waiting ≡ l.fn.parts.waiting;
  pieces : ArePieces l.rows (l.k + 1) (take l.at l.fn.parts.waiting) l.fn.alone.items l.parts.done l.alone.items;
}

use Rattle.std.proofs.Common.{◌≡◌, length}
use Rattle.cpu_set.specs.declared.TheConstants.{CPU_LIMIT}
use Rattle.apply_plan.specs.FirstHolders.{AreFirsts}
use Rattle.apply_plan.proofs.rings.note_holders.Given as goal

-- the table tells it of the entries before this one
abbrev pub invariant-loop-place : goal.invariant-loop-place
invariant-loop-place g l = record {
  room : length l.places ≡ CPU_LIMIT;
  firsts : AreFirsts (g.K.Kernel.state l.kernel) l.reserved l.entries l.any l.place l.seen l.places;
}

use Rattle.std.proofs.Common.{◌≡◌}
use Rattle.std.specs.Prelude.{find, drop}
use Rattle.apply_plan.specs.DueWrite.{must_move}
use Rattle.apply_plan.proofs.scan.have_arrived.Given as goal

-- who must move is among the entries that are left
abbrev pub invariant-loop-entry : goal.invariant-loop-entry
invariant-loop-entry g l = find (must_move (g.K.Kernel.state l.kernel)) (drop l.entry-index l.entries) ≡ find (must_move (g.K.Kernel.state l.kernel)) l.entries

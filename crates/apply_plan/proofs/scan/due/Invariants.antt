use Rattle.std.proofs.Common.{◌≡◌}
use Rattle.std.specs.Prelude.{find, drop}
use Rattle.std.specs.Option.{option_or, option_copied}
use Rattle.apply_plan.specs.DueWrite.{must_release, must_move}
use Rattle.apply_plan.proofs.scan.due.Given as goal

-- what is due is due among the entries not looked at yet, unless one to move was found
abbrev pub invariant-loop-place : goal.invariant-loop-place
invariant-loop-place g l = record {
  releases : find (must_release (g.K.Kernel.state l.kernel) l.reserved) (drop l.place l.entries) ≡ find (must_release (g.K.Kernel.state l.kernel) l.reserved) l.entries;
  moves : option_or (option_copied l.moving) (find (must_move (g.K.Kernel.state l.kernel)) (drop l.place l.entries)) ≡ find (must_move (g.K.Kernel.state l.kernel)) l.entries;
}

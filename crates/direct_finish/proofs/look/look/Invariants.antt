use Rattle.std.proofs.Common.{◌≡◌, ℕ, ◌<◌, get_or, drop, ◌&&◌}
use Rattle.std.specs.Prelude.{find, is_none}
use Rattle.apply_plan.specs.declared.Entry.{Entry}
use Rattle.apply_plan.specs.DueWrite.{must_move}
use Rattle.direct_finish.specs.Bounded.{IsBounded}
use Rattle.direct_finish.proofs.look.look.Given as goal

-- the entries before this one are bounded, and it is told whether none of them must move
abbrev pub invariant-loop-place : goal.invariant-loop-place
invariant-loop-place g l = record {
  bounded : (j : ℕ) (d : Entry) → j < l.place → d ≡ get_or l.entries j d → IsBounded (g.K.Kernel.state l.kernel) l.reserved l.bounds d;
  arrived : (l.arrived && is_none (find (must_move (g.K.Kernel.state l.kernel)) (drop l.place l.entries))) ≡ is_none (find (must_move (g.K.Kernel.state l.kernel)) l.entries);
}

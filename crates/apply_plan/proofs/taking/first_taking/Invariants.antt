use Rattle.std.proofs.Common.{◌≡◌}
use Rattle.std.specs.Prelude.{find, drop}
use Rattle.apply_plan.specs.Turns.{takes_by}
use Rattle.apply_plan.proofs.taking.first_taking.Given as goal

-- who is looked for is among the entries that are left
abbrev pub invariant-loop-entry : goal.invariant-loop-entry
invariant-loop-entry g l =
    find (takes_by (g.K.Kernel.state l.kernel) l.reserved l.entries l.rings l.taking) (drop l.entry-index l.entries)
    ≡ find (takes_by (g.K.Kernel.state l.kernel) l.reserved l.entries l.rings l.taking) l.entries

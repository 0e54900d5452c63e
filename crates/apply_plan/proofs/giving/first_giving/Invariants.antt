use Rattle.std.proofs.Common.{◌≡◌}
use Rattle.std.specs.Prelude.{find, drop}
use Rattle.apply_plan.specs.Directed.{allowed_in}
use Rattle.apply_plan.specs.Turns.{gives_by}
use Rattle.apply_plan.proofs.giving.first_giving.Given as goal

-- who is looked for is among the entries that are left
abbrev pub invariant-loop-place : goal.invariant-loop-place
invariant-loop-place g l =
    find (gives_by (g.K.Kernel.state l.kernel) l.reserved l.entries (allowed_in l.entries l.allowed) (g.C.Cores.least_of l.cores) l.giving) (drop l.place l.entries)
    ≡ find (gives_by (g.K.Kernel.state l.kernel) l.reserved l.entries (allowed_in l.entries l.allowed) (g.C.Cores.least_of l.cores) l.giving) l.entries

use Rattle.std.proofs.Common.{◌≡◌, ◌&&◌}
use Rattle.std.specs.Prelude.{find, drop}
use Rattle.std.specs.FinSet as set
use Rattle.apply_plan.proofs.taking.any_has_all.Given as goal

-- who is looked for is among the entries that are left
abbrev pub invariant-loop-entry : goal.invariant-loop-entry
invariant-loop-entry l =
    find (λ e. e.pinned && set.is_subset l.cpus e.target) (drop l.entry-index l.entries)
    ≡ find (λ e. e.pinned && set.is_subset l.cpus e.target) l.entries

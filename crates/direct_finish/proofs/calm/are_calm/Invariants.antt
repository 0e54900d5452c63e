use Rattle.std.proofs.Common.{◌≡◌, ℕ, ◌<◌, get_or}
use Rattle.direct_finish.specs.declared.standing.Standing.{Standing}
use Rattle.direct_finish.specs.Seen.{IsCalmAt}
use Rattle.direct_finish.proofs.calm.are_calm.Given as goal

-- those before this place are calm
abbrev pub invariant-loop-place : goal.invariant-loop-place
invariant-loop-place g l =
    (i : ℕ) (s : Standing) → i < l.place → s ≡ get_or l.standings i s
    → IsCalmAt (record { entries = l.entries; reserved = l.reserved }) (g.K.Kernel.state l.kernel) l.nexts l.standings i s

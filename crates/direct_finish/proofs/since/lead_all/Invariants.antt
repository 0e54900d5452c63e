use Rattle.std.proofs.Common.{◌≡◌, ℕ, ◌<◌, get_or}
use Rattle.direct_finish.specs.declared.standing.Standing.{Standing}
use Rattle.direct_finish.specs.Settled.{LeadsHere}
use Rattle.direct_finish.proofs.since.lead_all.Given as goal

-- those before this place do
abbrev pub invariant-loop-place : goal.invariant-loop-place
invariant-loop-place l = (i : ℕ) (s : Standing) → i < l.place → s ≡ get_or l.standings i s → LeadsHere l.nexts l.standings i s

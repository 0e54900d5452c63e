use Rattle.std.proofs.Common.{◌≡◌, length}
use Rattle.direct_finish.specs.Seen.{StandAll, directed}
use Rattle.direct_finish.proofs.sight.note_all.Given as goal

-- it is noted how those before this place stand
abbrev pub invariant-loop-place : goal.invariant-loop-place
invariant-loop-place g l = record {
  room : length l.standings ≡ length l.entries;
  all : StandAll (directed l.entries l.reserved l.allowed) (g.C.Cores.least_of l.cores) (g.K.Kernel.state l.kernel) l.standings l.place;
}

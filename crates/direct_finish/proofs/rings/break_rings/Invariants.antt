use Rattle.direct_finish.specs.FinishesDirectly.{MayFollow}
use Rattle.direct_finish.specs.Follows.{HasWritten, Falls}
use Rattle.direct_finish.specs.Seen.{IsUnderWay, directed}
use Rattle.direct_finish.specs.Settled.{IsSince}
use Rattle.direct_finish.proofs.rings.break_rings.Given as goal

-- some writes were made, and what was seen still tells of those that are left
abbrev pub invariant-loop-turn : goal.invariant-loop-turn
invariant-loop-turn g l = record {
  made : HasWritten (MayFollow (directed l.entries l.reserved l.allowed) (g.C.Cores.least_of l.cores)) (g.K.Kernel.state l.fn.kernel) (g.K.Kernel.state l.kernel);
  falls : Falls (record { entries = l.entries; reserved = l.reserved }) (g.K.Kernel.state l.fn.kernel) (g.K.Kernel.state l.kernel) l.moved;
  under_way : IsUnderWay (directed l.entries l.reserved l.allowed) (g.C.Cores.least_of l.cores) (g.K.Kernel.state l.kernel) l.seen l.nexts l.standings l.now l.bounds;
  since : IsSince l.nexts l.standings l.since;
}

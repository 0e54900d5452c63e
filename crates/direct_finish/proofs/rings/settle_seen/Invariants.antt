use Rattle.direct_finish.specs.FinishesDirectly.{TakesFree}
use Rattle.direct_finish.specs.Follows.{HasWritten, Falls}
use Rattle.direct_finish.specs.Seen.{IsUnderWay, directed}
use Rattle.direct_finish.specs.Settled.{IsSince}
use Rattle.direct_finish.proofs.rings.settle_seen.Given as goal

-- some free targets were taken, and others may be
abbrev pub invariant-loop-turn : goal.invariant-loop-turn
invariant-loop-turn g l = record {
  made : HasWritten (TakesFree (record { entries = l.entries; reserved = l.reserved })) (g.K.Kernel.state l.fn.kernel) (g.K.Kernel.state l.kernel);
  falls : Falls (record { entries = l.entries; reserved = l.reserved }) (g.K.Kernel.state l.fn.kernel) (g.K.Kernel.state l.kernel) l.moved;
  under_way : IsUnderWay (directed l.entries l.reserved l.allowed) (g.C.Cores.least_of l.cores) (g.K.Kernel.state l.kernel) l.seen l.nexts l.standings l.now l.bounds;
  since : IsSince l.nexts l.standings l.since;
}

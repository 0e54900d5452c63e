use Rattle.direct_finish.specs.FinishesDirectly.{TakesFree}
use Rattle.direct_finish.specs.Follows.{HasWritten, Falls, IsReady}
use Rattle.direct_finish.proofs.settle.settle.Given as goal

-- some free targets were taken, and others may be
abbrev pub invariant-loop-turn : goal.invariant-loop-turn
invariant-loop-turn g l = record {
  made : HasWritten (TakesFree (record { entries = l.entries; reserved = l.reserved })) (g.K.Kernel.state l.fn.kernel) (g.K.Kernel.state l.kernel);
  falls : Falls (record { entries = l.entries; reserved = l.reserved }) (g.K.Kernel.state l.fn.kernel) (g.K.Kernel.state l.kernel) l.moved;
  ready : IsReady (record { entries = l.entries; reserved = l.reserved }) (g.K.Kernel.state l.kernel) l.bounds;
}

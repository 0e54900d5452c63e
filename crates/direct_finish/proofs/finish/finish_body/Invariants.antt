use Rattle.std.proofs.Common.{◌≡◌}
use Rattle.apply_plan.specs.Holders.{IsSafe}
use Rattle.apply_plan.specs.Targets.{holders_of, ArePlaced}
use Rattle.apply_plan.specs.MayWrite.{left_directly}
use Rattle.direct_finish.specs.FinishesDirectly.{MayFollow}
use Rattle.direct_finish.specs.Follows.{HasWritten}
use Rattle.direct_finish.proofs.finish.finish_body.Given as goal

-- some writes were made, each of which may follow
abbrev pub invariant-turns : goal.invariant-turns
invariant-turns g l = record {
  same : l.handover ≡ l.fn.handover;
  made : HasWritten (MayFollow l.fn.handover (g.C.Cores.least_of l.cores)) (g.K.Kernel.state l.fn.kernel) (g.K.Kernel.state l.kernel);
  placed : ArePlaced (g.K.Kernel.state l.kernel) l.handover.targets.entries;
  safe : IsSafe (g.K.Kernel.state l.kernel) l.handover.targets.reserved (holders_of l.handover.targets.entries);
}

abbrev pub decreases-turns : goal.decreases-turns
decreases-turns g l = left_directly l.handover.targets (g.K.Kernel.state l.kernel)

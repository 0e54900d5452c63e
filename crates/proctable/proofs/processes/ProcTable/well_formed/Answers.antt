use Rattle.std.proofs.Common.{subst}
use Rattle.proctable.specs.TableWellFormed.{IsWellFormed}
use Rattle.proctable.proofs.PlaceLemmas.{live_rises}
use Rattle.proctable.proofs.processes.ProcTable.well_formed.Goals as goal

pub returns : goal.returns
returns c =
    let i = c.self.inside in
    subst IsWellFormed c.self.view_is
    (record { rising = live_rises 0 i.next_pid i.slots.items c.self.invariant.rising; belong = c.self.invariant.belong })

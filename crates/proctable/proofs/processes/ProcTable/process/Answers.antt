use Rattle.std.proofs.Common.{List, sym, ap, ◌∙◌, subst}
use Rattle.proctable.specs.declared.slots.Slot.{Slot}
use Rattle.proctable.specs.TableState.{TableState}
use Rattle.proctable.specs.Processes.{process_of, process_among}
use Rattle.proctable.specs.Kept.{live_of, PidsRise}
use Rattle.proctable.proofs.processes.ProcTable.process.Goals as goal

pub process_in-requires : goal.process_in-requires
process_in-requires c =
    let i = c.self.inside in
    (i.next_pid, subst (λ (l : List Slot). PidsRise 0 i.next_pid l) (sym c.as_slice.ensures.value) c.self.invariant.rising)

pub returns : goal.returns
returns c =
    c.process_in.ensures
    ∙ ap (λ (l : List Slot). process_among (live_of l) c.args.pid) c.as_slice.ensures.value
    ∙ ap (λ (t : TableState). process_of t c.args.pid) c.self.view_is

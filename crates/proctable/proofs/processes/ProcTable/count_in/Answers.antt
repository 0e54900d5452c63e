use Rattle.std.proofs.Common.{List, ap, ◌∙◌}
use Rattle.std.specs.Prelude.{count_by}
use Rattle.cpuset_tree.specs.Groups.{same_group}
use Rattle.proctable.specs.declared.slots.Slot.{Slot}
use Rattle.proctable.specs.TableState.{TableState}
use Rattle.proctable.specs.Processes.{count_in}
use Rattle.proctable.specs.Kept.{live_of}
use Rattle.proctable.proofs.processes.ProcTable.count_in.Goals as goal

pub returns : goal.returns
returns c =
    c.count_of.ensures
    ∙ ap (λ (l : List Slot). count_by (λ p. same_group p.group c.args.group) (live_of l)) c.as_slice.ensures.value
    ∙ ap (λ (t : TableState). count_in t c.args.group) c.self.view_is

use Rattle.std.proofs.Common.{sym, ap, ◌∙◌, subst, inr}
use Rattle.proctable.specs.TableState.{TableState}
use Rattle.proctable.specs.Processes.{process_of}
use Rattle.proctable.specs.TableWellFormed.{Belongs}
use Rattle.proctable.specs.Kept.{live_of, BelongsNext}
use Rattle.proctable.specs.ProcessLemmas.{Belongs-found}
use Rattle.proctable.proofs.processes.ProcTable.fork.Goals as goal

pub add-requires-clause-belongs : goal.add-requires-clause-belongs
add-requires-clause-belongs c =
    let i = c.self.inside in
    let p = c.in-Some.process in
    let b : Belongs (live_of i.slots.items) p = Belongs-found (live_of i.slots.items) (live_of i.slots.items) c.self.invariant.belong c.args.parent p
    (ap (λ (t : TableState). process_of t c.args.parent) c.self.view_is ∙ sym c.in-Some.ensures) in
    subst (λ (t : TableState). BelongsNext t p.group p.first) c.self.view_is (inr (b.first, b.alive, b.own, b.group))

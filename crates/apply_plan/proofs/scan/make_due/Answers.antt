use Rattle.apply_plan.specs.KernelFactLemmas.{made_is_placed}
use Rattle.apply_plan.specs.DueLemmas.{due_is_placed}
use Rattle.apply_plan.proofs.scan.make_due.Goals as goal

pub make_if_any-requires : goal.make_if_any-requires
make_if_any-requires g c = rw c.due-write.ensures (due_is_placed _ _ _ c.requires.placed)

pub returns-in_err-make_if_any-clause-placed : goal.returns-in_err-make_if_any-clause-placed
returns-in_err-make_if_any-clause-placed g c = made_is_placed _ _ _ _ c.make_if_any.ensures _ c.requires.placed

pub returns-clause-placed : goal.returns-clause-placed
returns-clause-placed g c = made_is_placed _ _ _ _ c.make_if_any.ensures _ c.requires.placed

use Rattle.machine.proofs.SubsetLaws.{is_subset-trans}
use Rattle.machine.proofs.machine.Machine.reserved.Goals as goal

pub returns-clause-present : goal.returns-clause-present
returns-clause-present c =
    rw (← c.self.view_is) (is_subset-trans _ _ _ c.self.invariant.sound.reserved_online c.self.invariant.sound.online_present)

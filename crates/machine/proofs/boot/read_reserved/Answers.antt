use Rattle.std.proofs.Common.{sym, ◌∙◌}
use Rattle.machine.proofs.BootLaws.{reserved_fault-empty, reserved_fault-outside, reserved_fault-none}
use Rattle.machine.proofs.SubsetLaws.{is_empty-as}
use Rattle.machine.proofs.boot.read_reserved.Goals as goal
use Rattle.machine.proofs.boot.read_reserved.Goals.{then-is_empty-via-then-is_empty, then-is_empty-via-else-is_empty+then-not-is_subset}

pub returns-then-is_empty-clause-fault : goal.returns-then-is_empty-clause-fault
returns-then-is_empty-clause-fault c =
    elim c.then-is_empty.branch [
      | then-is_empty-via-then-is_empty w ↦
          reserved_fault-empty _ _ _ c.in_ok-reserved.ensures.fault c.in_ok-reserved.ensures.cpus
          (is_empty-as _ _ c.is_empty.ensures ∙ w.if-is_empty.true)
      | then-is_empty-via-else-is_empty+then-not-is_subset w ↦
          reserved_fault-outside _ _ _ c.in_ok-reserved.ensures.fault c.in_ok-reserved.ensures.cpus
          (sym w.is_subset.ensures ∙ w.if-not-is_subset.true)
    ]

pub returns-clause-fault : goal.returns-clause-fault
returns-clause-fault c =
    reserved_fault-none _ _ _ c.in_ok-reserved.ensures.fault c.in_ok-reserved.ensures.cpus
    (is_empty-as _ _ c.is_empty.ensures ∙ c.if-is_empty.false) (sym c.is_subset.ensures ∙ c.if-not-is_subset.false)

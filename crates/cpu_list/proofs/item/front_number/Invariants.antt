use Rattle.std.proofs.Common.{◌-◌, length}
use Rattle.cpu_list.specs.Plain.{IsFront}
use Rattle.cpu_list.proofs.item.front_number.Given as goal

abbrev pub invariant-loop-count : goal.invariant-loop-count
invariant-loop-count l = IsFront l.text l.limit l.number l.count

abbrev pub decreases-loop-count : goal.decreases-loop-count
decreases-loop-count l = length l.text - l.count

use Rattle.std.proofs.Common.{◌≡◌, ◌↔◌, false, length}
use Rattle.std.specs.List.{AllByRecursion}
use Rattle.cpuset_tree.specs.Groups.{same_group}
use Rattle.scenarios.proofs.requirements.is_among.Given as goal

abbrev pub invariant-loop-rest : goal.invariant-loop-rest
invariant-loop-rest l = AllByRecursion (λ e. same_group l.group e.group ≡ false) l.rest ↔ AllByRecursion (λ e. same_group l.group e.group ≡ false) l.entries

abbrev pub decreases-loop-rest : goal.decreases-loop-rest
decreases-loop-rest l = length l.rest

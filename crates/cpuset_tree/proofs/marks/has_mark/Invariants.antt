use Rattle.std.proofs.Common.{◌≡◌, ◌==◌, take}
use Rattle.std.specs.List.{list_any}
use Rattle.cpuset_tree.proofs.marks.has_mark.Given as goal

-- whether the mark is among those so far
abbrev pub invariant-loop-other : goal.invariant-loop-other
invariant-loop-other l = l.found ≡ list_any (λ m. m == l.mark) (take l.other-index l.marks)

use Rattle.std.proofs.Common.{◌≡◌, ◌++◌, take}
use Rattle.twins.proofs.grouping.add_open.Given as goal

abbrev pub invariant-loop-at : goal.invariant-loop-at
invariant-loop-at l = l.classes.items ≡ l.initial.classes.items ++ take l.at l.parts.waiting

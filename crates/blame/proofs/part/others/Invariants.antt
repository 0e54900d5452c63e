use Rattle.std.proofs.Common.{◌≡◌, take}
use Rattle.hall.specs.Needed.{others}
use Rattle.blame.proofs.part.others.Given as goal

abbrev pub invariant-loop-k : goal.invariant-loop-k
invariant-loop-k l = l.rest.items ≡ others (take l.k-index l.members) l.one

use Rattle.blame.proofs.PartLemmas.{IsPartUpTo}
use Rattle.blame.proofs.part.part_of.Given as goal

abbrev pub invariant-loop-k : goal.invariant-loop-k
invariant-loop-k l = IsPartUpTo l.rows l.numbers l.root l.demand l.k-index l.part.items

use Rattle.rows.proofs.cache.find.Given as goal

abbrev pub invariant-loop-cached : goal.invariant-loop-cached
invariant-loop-cached l = Unit {0}

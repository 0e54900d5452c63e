use Rattle.rows.proofs.ChainLemmas.{AreGathered}
use Rattle.rows.proofs.chains.Chains.cpus_at.Given as goal

-- the CPUs of the chain's nodes down to this one
abbrev pub invariant-loop-from : goal.invariant-loop-from
invariant-loop-from l = AreGathered l.machine l.self.weights l.weight l.from l.cpus

abbrev pub decreases-loop-from : goal.decreases-loop-from
decreases-loop-from l = l.from

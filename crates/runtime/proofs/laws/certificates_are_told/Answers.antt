use Rattle.runtime.proofs.LastTold.{certificates_are_told}
use Rattle.runtime.proofs.laws.certificates_are_told.Goals as goal

pub returns : goal.returns
returns c =
    certificates_are_told c.runs.ensures.keep c.each_rebalance.ensures c.certificates_prove.ensures.last c.certificates_prove.ensures.total c.certificates_prove.ensures.short

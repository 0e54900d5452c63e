use Rattle.node.proofs.WithoutLemmas.{without_cores}
use Rattle.node.proofs.laws.without_cores.Goals as goal

pub returns : goal.returns
returns c = without_cores

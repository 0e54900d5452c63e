use Rattle.cgroup_tree.specs.PastLemmas.{pasts_stand, pasts_are_told, refusals_are_told}
use Rattle.cgroup_tree.proofs.laws.pasts.Goals as goal

pub returns : goal.returns
returns c = record { stand = pasts_stand; told = pasts_are_told; noted = refusals_are_told }

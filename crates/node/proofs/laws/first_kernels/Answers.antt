use Rattle.node.specs.UnusedLemmas.{first_is_unused, first_is_of_machine, first_wants_memory}
use Rattle.node.proofs.laws.first_kernels.Goals as goal

pub returns : goal.returns
returns c = record { unused = first_is_unused; machine = first_is_of_machine; memory = first_wants_memory }

use Rattle.cpu_set.proofs.Combined.{AreWords-zeroes, set_of_words-zeroes}
use Rattle.std.proofs.Common.{refl}
use Rattle.cpu_set.specs.declared.id_set.TheConstants.{WORDS}
use Rattle.cpu_set.proofs.id_set.IdSet.empty.Goals as goal

pub returns : goal.returns
returns c = set_of_words-zeroes

pub invariant_of-result : goal.invariant_of-result
invariant_of-result c = AreWords-zeroes WORDS refl

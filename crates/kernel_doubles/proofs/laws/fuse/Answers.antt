use Rattle.kernel_doubles.specs.FuseLemmas.{fuses_count_writes}
use Rattle.kernel_doubles.proofs.laws.fuse.Goals as goal

pub returns : goal.returns
returns c = fuses_count_writes

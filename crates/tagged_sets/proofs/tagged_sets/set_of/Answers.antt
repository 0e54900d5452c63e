use Rattle.cpu_set.specs.PointwiseLaws.{contains-empty}
use Rattle.tagged_sets.proofs.tagged_sets.set_of.Goals as goal

pub loop-range-init : goal.loop-range-init
loop-range-init c = λ q. rw c.empty-cpus.ensures (contains-empty q)

use Rattle.std.proofs.Common.{ap, ◌∙◌}
use Rattle.kernel_model.specs.KernelState.{KernelState}
use Rattle.cgroup_tree.proofs.mirror.Mirror.make_in_model.Goals as goal

pub returns-clause-model : goal.returns-clause-model
returns-clause-model g c = rw c.tell.ensures.inner c.make_group-answer.ensures.case

pub returns-clause-never_fails : goal.returns-clause-never_fails
returns-clause-never_fails g c = ap (λ (k : KernelState). k.failures) c.tell.ensures.inner ∙ c.make_group-answer.ensures.never_fails

pub returns-clause-root : goal.returns-clause-root
returns-clause-root g c = c.tell.ensures.root

pub returns-clause-memory : goal.returns-clause-memory
returns-clause-memory g c = c.tell.ensures.memory

pub returns-clause-partition : goal.returns-clause-partition
returns-clause-partition g c = c.tell.ensures.partition

pub returns-clause-files : goal.returns-clause-files
returns-clause-files g c = c.tell.ensures.files

pub returns-clause-room : goal.returns-clause-room
returns-clause-room g c = c.tell.ensures.room

use Rattle.runtime.proofs.laws.partitions.Goals as goal

pub returns : goal.returns
returns c = λ n rest outside id held there other cpu has. c.partitions.ensures.own n.kernel.tree rest outside held.group other cpu has

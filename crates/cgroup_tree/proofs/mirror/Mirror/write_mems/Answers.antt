use Rattle.cgroup_tree.proofs.Recording.{mems_mirrored}
use Rattle.cgroup_tree.proofs.mirror.Mirror.write_mems.Goals as goal

pub returns-clause-case : goal.returns-clause-case
returns-clause-case g c =
    rw c.tell.ensures.inner
    (mems_mirrored _ _ _ _ _ _ _ c.write_mems-answer.ensures.case c.write_mems-answer.ensures.never_fails c.tell.ensures.told)

pub returns-clause-same : goal.returns-clause-same
returns-clause-same g c = (c.tell.ensures.root, c.tell.ensures.memory, c.tell.ensures.partition)

pub returns-clause-wider : goal.returns-clause-wider
returns-clause-wider g c = rw c.tell.ensures.room c.write_list-asked.ensures.wider

use Rattle.cgroup_tree.specs.MirroredLemmas.{stand}
use Rattle.cgroup_tree.proofs.mirrored_kernel.MirroredKernel.files_stand.Goals as goal

pub returns : goal.returns
returns g c = stand g.F.GroupFiles.asked g.S.Sited.site _ _ c.is_mirrored.ensures.mirrored

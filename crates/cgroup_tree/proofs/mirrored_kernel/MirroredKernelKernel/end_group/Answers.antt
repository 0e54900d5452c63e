use Rattle.std.proofs.Common.{ap, arith}
use Rattle.std.specs.Prelude.{string_bytes}
use Rattle.kernel_model.specs.Trace.{EndedGroup}
use Rattle.cgroup_tree.specs.Events.{Wrote}
use Rattle.cgroup_tree.specs.MirroredLemmas.{goes_on, grown_at, well_at}
use Rattle.cgroup_tree.specs.RoomLemmas.{goes_on_in_room}
use Rattle.cgroup_tree.proofs.mirrored_kernel.MirroredKernelKernel.end_group.Goals as goal

pub invariant_of-self : goal.invariant_of-self
invariant_of-self g c =
    let event = Wrote (EndedGroup c.args.group c.end_group.result) in
    let was = c.self.invariant in (
      goes_on g.F.GroupFiles.asked g.S.Sited.site _ _ _ _ _ _ _ _ _ _ event was.0 (ap string_bytes c.end_group.ensures.same.0, c.end_group.ensures.same.1, c.end_group.ensures.same.2) c.end_group.ensures.case
          (grown_at g.F.GroupFiles.asked _ _ _ _ _ _ c.end_group.ensures.asks),
      rw (ap string_bytes c.end_group.ensures.same.0) (goes_on_in_room _ _ _ _ _ event (well_at g.F.GroupFiles.asked _ _ _ _ _ _ was.0) c.end_group.ensures.wider.0 was.1 c.end_group.ensures.case tt),
      omega (arith, was.2, c.end_group.ensures.wider.1),
    )

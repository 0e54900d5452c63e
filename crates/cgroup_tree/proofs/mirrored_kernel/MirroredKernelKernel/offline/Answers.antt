use Rattle.std.proofs.Common.{ap, arith}
use Rattle.std.specs.Prelude.{string_bytes}
use Rattle.cgroup_tree.specs.Events.{WentOffline}
use Rattle.cgroup_tree.specs.MirroredLemmas.{goes_on, unasked, well_at}
use Rattle.cgroup_tree.specs.RoomLemmas.{goes_on_in_room}
use Rattle.cgroup_tree.proofs.mirrored_kernel.MirroredKernelKernel.offline.Goals as goal

pub invariant_of-self : goal.invariant_of-self
invariant_of-self g c =
    let event = WentOffline c.args.cpu c.offline.result in
    let was = c.self.invariant in (
      goes_on g.F.GroupFiles.asked g.S.Sited.site _ _ _ _ _ _ _ _ _ _ event was.0 (ap string_bytes c.offline.ensures.same.0, c.offline.ensures.same.1, c.offline.ensures.same.2) c.offline.ensures.case
          (unasked g.F.GroupFiles.asked _ _ c.offline.ensures.files),
      rw (ap string_bytes c.offline.ensures.same.0, c.offline.ensures.room) (goes_on_in_room _ _ _ _ _ event (well_at g.F.GroupFiles.asked _ _ _ _ _ _ was.0) (omega (arith)) was.1 c.offline.ensures.case tt),
      rw c.offline.ensures.room was.2,
    )

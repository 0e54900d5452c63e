use Rattle.std.proofs.Common.{ap, arith}
use Rattle.std.specs.Prelude.{string_bytes}
use Rattle.kernel_model.specs.Trace.{Spawned}
use Rattle.cgroup_tree.specs.Events.{Wrote}
use Rattle.cgroup_tree.specs.MirroredLemmas.{goes_on, unasked, well_at}
use Rattle.cgroup_tree.specs.RoomLemmas.{goes_on_in_room}
use Rattle.cgroup_tree.proofs.mirrored_kernel.MirroredKernelKernel.spawn.Goals as goal

pub invariant_of-self : goal.invariant_of-self
invariant_of-self g c =
    let event = Wrote (Spawned c.args.group c.spawn.result) in
    let was = c.self.invariant in (
      goes_on g.F.GroupFiles.asked g.S.Sited.site _ _ _ _ _ _ _ _ _ _ event was.0 (ap string_bytes c.spawn.ensures.same.0, c.spawn.ensures.same.1, c.spawn.ensures.same.2) c.spawn.ensures.case
          (unasked g.F.GroupFiles.asked _ _ c.spawn.ensures.files),
      rw (ap string_bytes c.spawn.ensures.same.0, c.spawn.ensures.room) (goes_on_in_room _ _ _ _ _ event (well_at g.F.GroupFiles.asked _ _ _ _ _ _ was.0) (omega (arith)) was.1 c.spawn.ensures.case tt),
      rw c.spawn.ensures.room was.2,
    )

use Rattle.std.proofs.Common.{ap, arith}
use Rattle.std.specs.Prelude.{string_bytes}
use Rattle.kernel_model.specs.Trace.{MadeGroup}
use Rattle.cgroup_tree.specs.Events.{Wrote}
use Rattle.cgroup_tree.specs.Mirrored.{mirrored}
use Rattle.cgroup_tree.specs.MirroredLemmas.{goes_on, grown_both, well_at}
use Rattle.cgroup_tree.specs.RoomLemmas.{goes_on_in_room, room_for}
use Rattle.cgroup_tree.proofs.mirrored_kernel.MirroredKernelKernel.make_group.Goals as goal

pub invariant_of-self : goal.invariant_of-self
invariant_of-self g c =
    let event = Wrote (MadeGroup c.args.parent c.args.name.now c.make_group.result) in
    let was = c.self.invariant in
    let same = c.make_group.ensures.same in
    let more = grown_both g.F.GroupFiles.asked _ _ _ _ _ _ _ c.make_group.ensures.asks in (
      goes_on g.F.GroupFiles.asked g.S.Sited.site _ _ _ _ _ _ _ _ _ _ event was.0 (ap string_bytes same.0, same.1, same.2)
          c.make_group.ensures.case (record { these = more.these; are = (more.are, c.make_group.ensures.named); asks = more.asks }),
      rw (ap string_bytes same.0) (goes_on_in_room _ _ _ _ _ event (well_at g.F.GroupFiles.asked _ _ _ _ _ _ was.0) c.make_group.ensures.wider.0 was.1 c.make_group.ensures.case
          (room_for _ _ (mirrored c.self.inside.mirror.trace.calls c.self.inside.mirror.inner) c.args.parent c.args.name.now c.make_group.result c.make_group.ensures.wide)),
      omega (arith, was.2, c.make_group.ensures.wider.1),
    )

use Rattle.std.proofs.Common.{ap, arith}
use Rattle.std.specs.Prelude.{string_bytes}
use Rattle.kernel_model.specs.Trace.{WroteMems}
use Rattle.cgroup_tree.specs.Events.{Wrote}
use Rattle.cgroup_tree.specs.MirroredLemmas.{goes_on, grown, well_at}
use Rattle.cgroup_tree.specs.RoomLemmas.{goes_on_in_room}
use Rattle.cgroup_tree.proofs.mirrored_kernel.MirroredKernelKernel.write_mems.Goals as goal

pub invariant_of-self : goal.invariant_of-self
invariant_of-self g c =
    let event = Wrote (WroteMems c.args.group c.args.mems c.write_mems.result) in
    let was = c.self.invariant in (
      goes_on g.F.GroupFiles.asked g.S.Sited.site _ _ _ _ _ _ _ _ _ _ event was.0 (ap string_bytes c.write_mems.ensures.same.0, c.write_mems.ensures.same.1, c.write_mems.ensures.same.2) c.write_mems.ensures.case
          (grown g.F.GroupFiles.asked _ _ _ _ c.write_mems.ensures.asks),
      rw (ap string_bytes c.write_mems.ensures.same.0) (goes_on_in_room _ _ _ _ _ event (well_at g.F.GroupFiles.asked _ _ _ _ _ _ was.0) c.write_mems.ensures.wider.0 was.1 c.write_mems.ensures.case tt),
      omega (arith, was.2, c.write_mems.ensures.wider.1),
    )

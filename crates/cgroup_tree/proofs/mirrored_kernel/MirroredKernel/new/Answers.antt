-- A new kernel, of which no write was refused yet, and which has the root group alone.
use Rattle.std.proofs.Common.{◌∙◌, ap}
use Rattle.std.specs.Prelude.{string_bytes}
use Rattle.cgroup_tree.specs.MirroredLemmas.{starts}
use Rattle.cgroup_tree.specs.RoomLemmas.{room_new}
use Rattle.cgroup_tree.proofs.mirrored_kernel.MirroredKernel.new.Goals as goal

pub invariant_of-result : goal.invariant_of-result
invariant_of-result g c =
    let m = c.new.result in (
      starts g.F.GroupFiles.asked g.S.Sited.site _ _ _ m.trace.calls m.inner c.args.inner m.files c.new.ensures.inner c.new.ensures.trace
          c.root.ensures.well_formed c.requires.first (ap string_bytes c.new.ensures.root ∙ c.requires.root) (c.new.ensures.memory ∙ c.requires.memory) (c.new.ensures.partition ∙ c.requires.partition)
          (rw c.new.ensures.files c.requires.unasked),
      rw (c.new.ensures.room, c.new.ensures.root, c.new.ensures.inner) (room_new _ _ g.S.Sited.site.first _ c.requires.first c.requires.path),
      rw c.new.ensures.room c.requires.line,
    )

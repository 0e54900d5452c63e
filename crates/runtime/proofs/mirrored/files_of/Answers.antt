-- What the kernel that was handed back says of its files, and the node that it is of.
use Rattle.std.proofs.Common.{sym}
use Rattle.runtime.specs.MirroredNodes.{IsMirroredNode}
use Rattle.runtime.proofs.mirrored.files_of.Goals as goal

pub returns : goal.returns
returns g c =
    let kernel = c.into_kernel-kernel.result in
    let its : IsMirroredNode g.F.GroupFiles.asked g.S.Sited.site c.into_node-node.result =
    record {
      files = kernel.files;
      mirrored = rw c.into_kernel-kernel.ensures at c.is_mirrored.ensures.mirrored;
      stands = rw c.into_kernel-kernel.ensures at c.files_stand.ensures;
      safe = c.holds.ensures.holds.safe;
    } in
    rw (sym c.into_node-node.ensures, c.into_files.ensures) (its, its.mirrored.made)

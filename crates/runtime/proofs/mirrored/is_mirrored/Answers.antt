-- What the kernel says of its files, and the node of its kernel.
use Rattle.runtime.proofs.mirrored.is_mirrored.Goals as goal

pub returns : goal.returns
returns g c =
    let kernel = c.kernel-kernel.result.now in
    record {
      files = kernel.files;
      mirrored = rw c.kernel-kernel.ensures at c.is_mirrored.ensures.mirrored;
      stands = rw c.kernel-kernel.ensures at c.files_stand.ensures;
      safe = c.holds.ensures.holds.safe;
    }

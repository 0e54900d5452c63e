-- How a fuse burns, write by write. No public clause cites this module.
use Rattle.std.specs.Prelude.{◌-◌, Bool, false, ◌==◌, if◌then◌else◌}
use Rattle.kernel_doubles.specs.declared.fused_kernel.Fuse.{Fuse}
use Rattle.kernel_doubles.specs.declared.fused_kernel.Fuse.TheVariants.{Waiting, Blown}

-- the fuse after one write more
abbrev pub burnt : Fuse → Fuse
burnt (Waiting left) = if left == 1 then Blown else Waiting (left - 1)
burnt Blown = Blown

-- whether the next write fails
abbrev pub is_due : Fuse → Bool
is_due (Waiting left) = left == 1
is_due Blown = false

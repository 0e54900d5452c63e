-- A writing call that the model made is a call of the model with the trace of both.
use Rattle.std.proofs.Common.{◌≡◌, List, ◌∷◌, Result, rules}
use Rattle.cpu_set.specs.Ids.{Ids}
use Rattle.cpuset_tree.specs.declared.Group.{Group}
use Rattle.kernel_model.specs.declared.fault.KernelFault.{KernelFault}
use Rattle.kernel_model.specs.KernelState.{KernelState}
use Rattle.kernel_model.specs.Trace.{WritingCall, WroteMems}
use Rattle.kernel_model.specs.Cases.{WritesMems}
use Rattle.cgroup_tree.specs.Mirrored.{mirrored}

pub mems_mirrored :
    (before after : List WritingCall) (old new : KernelState) (g : Group) (mems : Ids) (r : Result (Unit {0}) KernelFault)
    → WritesMems old g mems r new → new.failures ≡ 0 → after ≡ WroteMems g mems r ∷ before
    → WritesMems (mirrored before old) g mems r (mirrored after new)
mems_mirrored before after old new g mems r case none told = search rules

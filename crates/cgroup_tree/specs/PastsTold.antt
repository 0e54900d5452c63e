-- That the calls which led to a kernel are those that it was asked for, and that what was refused was told.
use Rattle.std.specs.Prelude.{◌≡◌, ⊤, false, List, [], ◌∷◌, Option, Some, None}
use Rattle.kernel_model.specs.KernelState.{KernelState}
use Rattle.cgroup_tree.specs.Asked.{Asked, Deed, Told, path_of, remark_on}
use Rattle.cgroup_tree.specs.Events.{Event, Past, writes_among}
use Rattle.cgroup_tree.specs.Site.{Site}

-- whatever calls led from a new kernel to this one, the writing calls among them are those of its trace, in their order and with
-- their answers
abbrev pub PastsAreTold : Type 0
PastsAreTold = (site : Site) (past : List Event) (k : KernelState) (calls : List Asked) → Past site past k calls → writes_among past ≡ k.trace

-- of these calls, the newest first, each that was refused was told behind it with its path; behind the newest one this was called
unfoldable pub AreToldBehind : Option Deed → List Asked → Type 0
AreToldBehind next [] = ⊤
AreToldBehind next (call ∷ before) = (call.done ≡ false → next ≡ Some (Told (path_of call.deed) (remark_on call.deed))) × AreToldBehind (Some call.deed) before

-- the same where none was called since
abbrev pub AreTold : List Asked → Type 0
AreTold calls = AreToldBehind None calls

-- whatever calls led to a kernel, each that the files refused was told with its path, and each look that found another line
abbrev pub RefusalsAreTold : Type 0
RefusalsAreTold = (site : Site) (past : List Event) (k : KernelState) (calls : List Asked) → Past site past k calls → AreTold calls

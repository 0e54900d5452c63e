-- That children of one group differ in their names.
-- From: cgroup v2: groups are folders.
use Rattle.std.specs.Prelude.{◌≡◌, ℕ, true, List, Some, Result}
use Rattle.faults.specs.declared.or_memory.OrMemory.{OrMemory}
use Rattle.cpu_set.specs.Ids.{Ids}
use Rattle.cpuset_tree.specs.declared.Group.{Group}
use Rattle.cpuset_tree.specs.TreeState.{GroupEntry}
use Rattle.cpuset_tree.specs.Groups.{same_group, entry_among}
use Rattle.kernel_model.specs.declared.fault.KernelFault.{KernelFault}
use Rattle.kernel_model.specs.declared.call.Call.{Call}
use Rattle.kernel_model.specs.declared.call.Reply.{Reply}
use Rattle.kernel_model.specs.KernelState.{KernelState, IsFirstKernel}
use Rattle.kernel_model.specs.Runs.{Step, Run}

-- no two groups have one parent and one name
abbrev pub HaveOwnNames : List GroupEntry → Type 0
HaveOwnNames groups =
    (p q : Group) (e f : GroupEntry) → entry_among groups p ≡ Some e → entry_among groups q ≡ Some f → e.parent ≡ f.parent → e.name ≡ f.name
    → same_group p q ≡ true

-- in a new kernel no two groups have one parent and one name
abbrev pub FirstHasOwnNames : Type 0
FirstHasOwnNames =
    (present reserved online nodes : Ids) (first_pid : ℕ) (k : KernelState) → IsFirstKernel present reserved online nodes first_pid k → HaveOwnNames k.tree.groups

-- each call leaves it so
abbrev pub StepsKeepNames : Type 0
StepsKeepNames =
    (old new : KernelState) (call : Call) (r : Result Reply (OrMemory KernelFault)) → HaveOwnNames old.tree.groups → Step old call r new → HaveOwnNames new.tree.groups

-- each list of calls leaves it so
abbrev pub RunsKeepNames : Type 0
RunsKeepNames =
    (old new : KernelState) (calls : List Call) (replies : List (Result Reply (OrMemory KernelFault))) → HaveOwnNames old.tree.groups → Run old calls replies new
    → HaveOwnNames new.tree.groups

-- Where the writes of a mirrored kernel are made, and how it began.
use Rattle.std.specs.Prelude.{ℕ, Bool, false, List, []}
use Rattle.std.specs.FinSet as set
use Rattle.cpu_set.specs.Ids.{Ids}
use Rattle.kernel_model.specs.KernelState.{KernelState, IsFirstKernel}
use Rattle.cgroup_tree.specs.Asked.{Opening}

-- how a kernel began: the CPUs, those of them that are reserved and those that were online, its nodes, and the first pid
pub record Beginning : Type 0 where
  pub present : Ids
  pub reserved : Ids
  pub online : Ids
  pub nodes : Ids
  pub first_pid : ℕ

-- a kernel that begins so
abbrev pub Begins : Beginning → KernelState → Type 0
Begins b k = IsFirstKernel b.present b.reserved b.online b.nodes b.first_pid k

-- where the writes of a mirrored kernel are made: the path of the root group's folder, and the nodes that have memory.
-- Whether folders of a run before may be there, and whether the root has to be a partition root. How the kernel began.
pub record Site : Type 0 where
  pub root : List ℕ
  pub memory : Ids
  pub adopt : Bool
  pub partition : Bool
  pub first : Beginning

-- how the files there are opened: other programs are kept from the root
abbrev pub opening : Site → Opening
opening site = record { adopt = site.adopt; locked = site.root }

-- one that no kernel has
abbrev pub nowhere : Site
nowhere = record {
  root = [];
  memory = set.empty;
  adopt = false;
  partition = false;
  first = record { present = set.empty; reserved = set.empty; online = set.empty; nodes = set.empty; first_pid = 0 };
}

-- What each call of a tree answers: the first thing that stands against it, in the order written here, or what it is for.
-- From: cgroup v2; the order is ours.
use Rattle.std.specs.Prelude.{◌≡◌, ℕ, false, not, ◌==◌, if◌then◌else◌, List, Option, Some, None, is_some, Result}
use Rattle.faults.specs.declared.or_memory.OrMemory.{OrMemory}
use Rattle.faults.specs.Calls.{Grows}
use Rattle.faults.specs.First.{value_where}
use Rattle.cpuset_tree.specs.declared.TheConstants.{SERIAL_LIMIT}
use Rattle.cpuset_tree.specs.declared.groups.Group.{Group}
use Rattle.cpuset_tree.specs.declared.fault.TreeFault.{TreeFault}
use Rattle.cpuset_tree.specs.declared.fault.TreeFault.TheVariants.{NoGroup, Exists, HasChildren, IsRoot, NoSerials}
use Rattle.cpuset_tree.specs.TreeState.{TreeState}
use Rattle.cpuset_tree.specs.Groups.{has_group, has_children, child_of, is_root}
use Rattle.cpuset_tree.specs.TreeChanges.{with_group}

-- what stands against making a group
abbrev pub make_refusal : TreeState → Group → List ℕ → Option TreeFault
make_refusal s parent name =
    if not (has_group s parent) then Some NoGroup
    else if is_some (child_of s parent name) then Some Exists
    else if s.next_serial == SERIAL_LIMIT then Some NoSerials
    else None

-- what stands against removing a group
abbrev pub remove_refusal : TreeState → Group → Option TreeFault
remove_refusal s g =
    if not (has_group s g) then Some NoGroup
    else if is_root s g then Some IsRoot
    else if has_children s g then Some HasChildren
    else None

-- what stands against writing what a group requests
abbrev pub write_refusal : TreeState → Group → Option TreeFault
write_refusal s g =
    if not (has_group s g) then Some NoGroup
    else if is_root s g then Some IsRoot
    else None

-- a group that was in no tree gets the next serial, and is there then
pub record AddsGroup (old : TreeState) (parent : Group) (name : List ℕ) (g : Group) (new : TreeState) : Type 0 where
  pub serial : g.serial ≡ old.next_serial
  pub fresh : has_group old g ≡ false
  pub added : new ≡ with_group old g parent name

-- a group is made, unless something stands against it
abbrev pub Makes : TreeState → Group → List ℕ → Result Group (OrMemory TreeFault) → TreeState → Type 0
Makes old parent name = Grows (make_refusal old parent name) (AddsGroup old parent name) old

-- a read of a group: this value, or that there is no such group
abbrev pub read_of : {A : Type 0} → TreeState → Group → A → Result A TreeFault
read_of s g = value_where (has_group s g) NoGroup

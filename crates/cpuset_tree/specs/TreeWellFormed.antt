-- Which values are trees.
use Rattle.std.specs.Prelude.{◌≡◌, ℕ, ◌<◌, true, List, [], ◌∷◌, Option, Some, None, is_some}
use Rattle.cpuset_tree.specs.declared.groups.Group.{Group}
use Rattle.cpuset_tree.specs.TreeState.{GroupEntry, TreeState}
use Rattle.cpuset_tree.specs.Groups.{entry_among, root_among}

-- a parent is among the older groups, and only the oldest group has none
abbrev pub ParentIsAmong : Option Group → List GroupEntry → Type 0
ParentIsAmong None older = older ≡ []
ParentIsAmong (Some parent) older = is_some (entry_among older parent) ≡ true

-- each serial is below those of newer groups, the newest below `next`, and each parent is an older group
abbrev pub IsFalling : ℕ → List GroupEntry → Type 0
IsFalling next [] = Unit {0}
IsFalling next (e ∷ older) = (e.group.serial < next) × ParentIsAmong e.parent older × IsFalling e.group.serial older

-- serials fall, so none was given twice nor will be. Each group but the root has its parent in the tree, which is older.
-- There is a root.
pub record IsWellFormed (s : TreeState) : Type 0 where
  pub falling : IsFalling s.next_serial s.groups
  pub rooted : is_some (root_among s.groups) ≡ true

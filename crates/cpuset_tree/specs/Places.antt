-- Where a group stands: below which group, and by which name.
-- From: cgroup v2: groups are folders.
use Rattle.std.specs.Prelude.{ℕ, List, Option, Some, None, option_map}
use Rattle.std.specs.Borrow.{Bor}
use Rattle.cpuset_tree.specs.declared.groups.Group.{Group}
use Rattle.cpuset_tree.specs.TreeState.{GroupEntry, TreeState}
use Rattle.cpuset_tree.specs.Groups.{entry_of}

-- the parent and the name in an entry, unless it is the root's
abbrev pub place_in : Option GroupEntry → Option (Group × List ℕ)
place_in None = None
place_in (Some e) = option_map (λ parent. (parent, e.name)) e.parent

-- the parent and the name of a group that is there and is not the root
abbrev pub place_of : TreeState → Group → Option (Group × List ℕ)
place_of s g = place_in (entry_of s g)

-- what a look-up of them gives
abbrev pub place_behind : Option (Group × Bor (List ℕ)) → Option (Group × List ℕ)
place_behind found = option_map (λ place. (place.0, place.1.now)) found

-- What holds of each tree, and what each change leaves of it.
use Rattle.std.specs.Prelude.{◌≡◌, ◌≢◌, ◌↔◌, ℕ, ◌<◌, ◌≤◌, true, false, List, Some, None, option_map}
use Rattle.std.specs.FinSet as set
use Rattle.cpu_set.specs.Ids.{Ids}
use Rattle.cpuset_tree.specs.declared.groups.Group.{Group}
use Rattle.cpuset_tree.specs.TreeState.{GroupEntry, TreeState}
use Rattle.cpuset_tree.specs.Groups.{same_group, entry_of, has_group, has_children, is_root, child_of, root_of, requested_cpus, requested_mems}
use Rattle.cpuset_tree.specs.Effective.{granted, standing, effective_cpus, effective_mems}
use Rattle.cpuset_tree.specs.TreeChanges.{new_entry, IsFirstTree, without_group, requesting_cpus, requesting_mems, with_cpus, with_mems, with_online}
use Rattle.cpuset_tree.specs.TreeAnswers.{AddsGroup}
use Rattle.cpuset_tree.specs.TreeWellFormed.{IsWellFormed}

-- what is in effect is the recursion up the path, for a reader who trusts no list. At the root it is all, and else what is
-- granted of the parent's in the same tree.
pub record RunsUpThePath (s : TreeState) : Type 0 where
  pub cpus : (g : Group) (e : GroupEntry) → entry_of s g ≡ Some e
      → effective_cpus s g ≡ standing e.parent e.cpus s.online (effective_cpus s)
  pub mems : (g : Group) (e : GroupEntry) → entry_of s g ≡ Some e
      → effective_mems s g ≡ standing e.parent e.mems s.nodes (effective_mems s)

-- two groups are one exactly if they are equal
abbrev pub SameIsEqual : Type 0
SameIsEqual = (g h : Group) → (same_group g h ≡ true) ↔ (g ≡ h)

-- the entry that is found of a group is its own
abbrev pub EntryIsOwn : Type 0
EntryIsOwn = (s : TreeState) (g : Group) (e : GroupEntry) → entry_of s g ≡ Some e → e.group ≡ g

-- the root is there, and has no parent
pub record IsRootEntry (s : TreeState) (g : Group) : Type 0 where
  pub entry : GroupEntry
  pub there : entry_of s g ≡ Some entry
  pub above : entry.parent ≡ None

-- the root is in the tree and has no parent
abbrev pub RootIsThere : Type 0
RootIsThere = (s : TreeState) (g : Group) → IsWellFormed s → root_of s ≡ Some g → IsRootEntry s g

-- the parent of a group is in the tree and was made before it
abbrev pub ParentIsThere : Type 0
ParentIsThere =
    (s : TreeState) (g p : Group) (e : GroupEntry) → IsWellFormed s → entry_of s g ≡ Some e → e.parent ≡ Some p → (has_group s p ≡ true) × (p.serial < g.serial)

-- a group that is nobody's parent has no children
abbrev pub NoParentNoChildren : Type 0
NoParentNoChildren =
    (s : TreeState) (g : Group) → IsWellFormed s → ((p : Group) (e : GroupEntry) → entry_of s p ≡ Some e → e.parent ≢ Some g) → has_children s g ≡ false

-- a group that requests nothing is granted all
abbrev pub GrantsAll : Type 0
GrantsAll = (above : Ids) → granted set.empty above ≡ above

-- a group that requests some of what its parent has is granted that
abbrev pub GrantsWithin : Type 0
GrantsWithin = (requested above : Ids) → requested ≢ set.empty → set.is_subset requested above ≡ true → granted requested above ≡ requested

-- a group two below the root, with its entry and its parent's
pub record IsTwoBelowRoot (s : TreeState) (g : Group) (e above : GroupEntry) : Type 0 where
  pub root : Group
  pub parent : Group
  pub top : root_of s ≡ Some root
  pub there : entry_of s g ≡ Some e
  pub below : e.parent ≡ Some parent
  pub parent_there : entry_of s parent ≡ Some above
  pub parent_below : above.parent ≡ Some root

-- a group two below the root has what it is granted of all that is online, and of all nodes, if its parent requests nothing
pub record GrantedOfAll (s : TreeState) (g : Group) (e above : GroupEntry) : Type 0 where
  pub cpus : above.cpus ≡ set.empty → effective_cpus s g ≡ granted e.cpus s.online
  pub mems : above.mems ≡ set.empty → effective_mems s g ≡ granted e.mems s.nodes

-- a group two below the root has what it is granted of all, if its parent requests nothing
abbrev pub TwoBelowRoot : Type 0
TwoBelowRoot = (s : TreeState) (g : Group) (e above : GroupEntry) → IsWellFormed s → IsTwoBelowRoot s g e above → GrantedOfAll s g e above

-- entries of one group, below one parent and of one name
pub record SamePlace (e f : GroupEntry) : Type 0 where
  pub group : e.group ≡ f.group
  pub parent : e.parent ≡ f.parent
  pub name : e.name ≡ f.name

-- an entry of this group, in the same place
pub record StandsAs (s : TreeState) (g : Group) (e : GroupEntry) : Type 0 where
  pub entry : GroupEntry
  pub there : entry_of s g ≡ Some entry
  pub place : SamePlace e entry

-- the groups of both trees stand alike: they differ at most in what they request
pub record StandAlike (s new : TreeState) : Type 0 where
  pub before : (p : Group) (e : GroupEntry) → entry_of new p ≡ Some e → StandsAs s p e
  pub after : (p : Group) (e : GroupEntry) → entry_of s p ≡ Some e → StandsAs new p e
  pub there : (p : Group) → has_group new p ≡ has_group s p
  pub rootness : (p : Group) → is_root new p ≡ is_root s p
  pub child : (parent : Group) (name : List ℕ) → child_of new parent name ≡ child_of s parent name
  pub children : (p : Group) → has_children new p ≡ has_children s p
  pub root : root_of new ≡ root_of s
  pub next_serial : new.next_serial ≡ s.next_serial

-- a write leaves all groups where they stand
abbrev pub WritesLeavePlaces : Type 0
WritesLeavePlaces =
    ((s : TreeState) (g : Group) (cpus : Ids) → StandAlike s (with_cpus s g cpus)) × ((s : TreeState) (g : Group) (mems : Ids) → StandAlike s (with_mems s g mems))

-- a group that is in the tree has a serial that was given
abbrev pub SerialIsGiven : Type 0
SerialIsGiven = (s : TreeState) (g : Group) → IsWellFormed s → has_group s g ≡ true → g.serial < s.next_serial

-- the next serial does not fall, and a group of a serial that was given before stands as it did
pub record KeepsSerials (s new : TreeState) : Type 0 where
  pub rise : s.next_serial ≤ new.next_serial
  pub same : (g : Group) (e : GroupEntry) → g.serial < s.next_serial → entry_of new g ≡ Some e → StandsAs s g e

pub record ChangesKeepSerials (s : TreeState) : Type 0 where
  pub added : (new : TreeState) (parent : Group) (name : List ℕ) (g : Group) → AddsGroup s parent name g new → KeepsSerials s new
  pub removed : (g : Group) → KeepsSerials s (without_group s g)
  pub cpus : (g : Group) (cpus : Ids) → KeepsSerials s (with_cpus s g cpus)
  pub mems : (g : Group) (mems : Ids) → KeepsSerials s (with_mems s g mems)
  pub online : (online : Ids) → KeepsSerials s (with_online s online)

-- no change of a tree gives a serial twice
abbrev pub SerialsGivenOnce : Type 0
SerialsGivenOnce = (s : TreeState) → ChangesKeepSerials s

-- a write of a group's CPUs changes what that group requests, and no other entry
abbrev pub CpusWritten : Type 0
CpusWritten = (s : TreeState) (g : Group) (cpus : Ids) (p : Group) → entry_of (with_cpus s g cpus) p ≡ option_map (requesting_cpus g cpus) (entry_of s p)

-- a write of a group's memory nodes changes what that group requests, and no other entry
abbrev pub MemsWritten : Type 0
MemsWritten = (s : TreeState) (g : Group) (mems : Ids) (p : Group) → entry_of (with_mems s g mems) p ≡ option_map (requesting_mems g mems) (entry_of s p)

-- after a write of a group's CPUs it requests these, and every other group what it did; no group's memory nodes change
pub record CpusRequested (s : TreeState) (g : Group) (cpus : Ids) : Type 0 where
  pub own : has_group s g ≡ true → requested_cpus (with_cpus s g cpus) g ≡ cpus
  pub others : (p : Group) → same_group g p ≡ false → requested_cpus (with_cpus s g cpus) p ≡ requested_cpus s p
  pub apart : (p : Group) → same_group g p ≡ false → entry_of (with_cpus s g cpus) p ≡ entry_of s p
  pub mems : (p : Group) → requested_mems (with_cpus s g cpus) p ≡ requested_mems s p
  pub there : (p : Group) → has_group (with_cpus s g cpus) p ≡ has_group s p

-- and the same after a write of its memory nodes
pub record MemsRequested (s : TreeState) (g : Group) (mems : Ids) : Type 0 where
  pub own : has_group s g ≡ true → requested_mems (with_mems s g mems) g ≡ mems
  pub others : (p : Group) → same_group g p ≡ false → requested_mems (with_mems s g mems) p ≡ requested_mems s p
  pub apart : (p : Group) → same_group g p ≡ false → entry_of (with_mems s g mems) p ≡ entry_of s p
  pub cpus : (p : Group) → requested_cpus (with_mems s g mems) p ≡ requested_cpus s p
  pub there : (p : Group) → has_group (with_mems s g mems) p ≡ has_group s p

-- behind a write the group requests what was written, and what else is requested stays
abbrev pub WritesRequest : Type 0
WritesRequest = ((s : TreeState) (g : Group) (cpus : Ids) → CpusRequested s g cpus) × ((s : TreeState) (g : Group) (mems : Ids) → MemsRequested s g mems)

-- a new group requests nothing, and all others stay
pub record GroupAdded (s new : TreeState) (parent : Group) (name : List ℕ) (g : Group) : Type 0 where
  pub serial : g.serial ≡ s.next_serial
  pub fresh : has_group s g ≡ false
  pub there : entry_of new g ≡ Some (new_entry g (Some parent) name)
  pub others : (p : Group) → same_group g p ≡ false → entry_of new p ≡ entry_of s p
  pub differs : (p : Group) → has_group s p ≡ true → same_group g p ≡ false
  pub child : child_of new parent name ≡ Some g
  pub cpus : (p : Group) → requested_cpus new p ≡ requested_cpus s p
  pub mems : (p : Group) → requested_mems new p ≡ requested_mems s p

-- a new group requests nothing, and all others stay
abbrev pub AddedLeaves : Type 0
AddedLeaves = (s new : TreeState) (parent : Group) (name : List ℕ) (g : Group) → AddsGroup s parent name g new → GroupAdded s new parent name g

-- a removed group is there no more, and all others stay
pub record GroupRemoved (s : TreeState) (g : Group) : Type 0 where
  pub gone : entry_of (without_group s g) g ≡ None
  pub others : (p : Group) → same_group g p ≡ false → entry_of (without_group s g) p ≡ entry_of s p

-- a removed group is there no more, and all others stay
abbrev pub RemovedLeaves : Type 0
RemovedLeaves = (s : TreeState) (g : Group) → GroupRemoved s g

-- a child that is found by its name is in the tree, with that parent and that name
pub record IsChild (s : TreeState) (parent : Group) (name : List ℕ) (g : Group) : Type 0 where
  pub entry : GroupEntry
  pub there : entry_of s g ≡ Some entry
  pub below : entry.parent ≡ Some parent
  pub named : entry.name ≡ name

-- a child that is found by its name is a child of that group, and has that name
abbrev pub FoundIsChild : Type 0
FoundIsChild = (s : TreeState) (parent : Group) (name : List ℕ) (g : Group) → IsWellFormed s → child_of s parent name ≡ Some g → IsChild s parent name g

-- each change of a tree that a call makes leaves a tree
pub record StaysWellFormed (s : TreeState) : Type 0 where
  pub added : (new : TreeState) (parent : Group) (name : List ℕ) (g : Group) → has_group s parent ≡ true → AddsGroup s parent name g new → IsWellFormed new
  pub removed : (g : Group) → is_root s g ≡ false → has_children s g ≡ false → IsWellFormed (without_group s g)
  pub cpus : (g : Group) (cpus : Ids) → IsWellFormed (with_cpus s g cpus)
  pub mems : (g : Group) (mems : Ids) → IsWellFormed (with_mems s g mems)
  pub online : (online : Ids) → IsWellFormed (with_online s online)

-- each change of a tree leaves a tree
abbrev pub ChangesStayWellFormed : Type 0
ChangesStayWellFormed = (s : TreeState) → IsWellFormed s → StaysWellFormed s

-- a tree of its root alone is one
abbrev pub FirstIsWellFormed : Type 0
FirstIsWellFormed = (online nodes : Ids) (first_serial : ℕ) (s : TreeState) → IsFirstTree online nodes first_serial s → IsWellFormed s

-- in each tree what is in effect is the recursion up the path
abbrev pub WellFormedRunsUp : Type 0
WellFormedRunsUp = (s : TreeState) → IsWellFormed s → RunsUpThePath s

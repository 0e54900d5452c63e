-- How a `Tree` keeps its groups, and what it keeps of them. No public clause cites this module.
use Rattle.std.specs.Prelude.{◌≡◌, ◌≢◌, ℕ, ◌+◌, ◌*◌, ◌%◌, ◌^◌, ◌<◌, ◌≤◌, Bool, true, false, ◌||◌, ◌==◌, nat_le, nat_lt, if◌then◌else◌, List, [], ◌∷◌, Option, Some, None, is_some, option_map, string_bytes, length, slice_index_or}
use Rattle.std.specs.List.{list_any}
use Rattle.std.specs.FinSet as set
use Rattle.slab.specs.Slab.{Slab, get}
use Rattle.cpu_set.specs.Ids.{Ids}
use Rattle.cpuset_tree.specs.declared.groups.Group.{Group}
use Rattle.cpuset_tree.specs.declared.groups.Cgroup.{Cgroup}
use Rattle.cpuset_tree.specs.declared.groups.Resource.{Resource}
use Rattle.cpuset_tree.specs.declared.groups.Resource.TheVariants.{Cpus, Mems}
use Rattle.cpuset_tree.specs.declared.groups.Share.{Share}
use Rattle.cpuset_tree.specs.declared.groups.Shares.{Shares}
use Rattle.cpuset_tree.specs.TreeState.{GroupEntry, TreeState}
use Rattle.cpuset_tree.specs.TreeChanges.{requesting_cpus, requesting_mems, with_cpus, with_mems}
use Rattle.cpuset_tree.specs.Groups.{entry_of, entry_among, root_among}
use Rattle.cpuset_tree.specs.Effective.{standing, effective, effective_cpus, effective_mems}

-- what a kept group is to the tree's callers
abbrev pub entry_of_kept : Cgroup → GroupEntry
entry_of_kept n =
    record { group = n.group; parent = n.parent; name = string_bytes n.name; cpus = n.shares.value.cpus.requested; mems = n.shares.value.mems.requested }

-- the older groups, with the one that is kept before them
abbrev pub before : Option Cgroup → List GroupEntry → List GroupEntry
before None older = older
before (Some n) older = entry_of_kept n ∷ older

-- the groups of these keys
abbrev pub entries_kept : Slab Cgroup → List ℕ → List GroupEntry
entries_kept s [] = []
entries_kept s (key ∷ older) = before (get s key) (entries_kept s older)

-- a parent is among the groups of these keys, and only the oldest group has none
abbrev pub HasParentAmong : Slab Cgroup → Option Group → List ℕ → Type 0
HasParentAmong s None older = older ≡ []
HasParentAmong s (Some parent) older = is_some (entry_among (entries_kept s older) parent) ≡ true

-- each key has a group that knows it, the serials fall from here on, and a parent is older
abbrev pub IsInOrder : Slab Cgroup → ℕ → List ℕ → Type 0
IsInOrder s next [] = Unit {0}
IsInOrder s next (key ∷ older) =
    (n : Cgroup) × (get s key ≡ Some n) × (n.group.key ≡ key) × (n.group.serial < next)
    × HasParentAmong s n.parent older × IsInOrder s n.group.serial older

-- the same with the serials below some number
abbrev pub IsOrder : Slab Cgroup → List ℕ → Type 0
IsOrder s keys = (next : ℕ) × IsInOrder s next keys

-- a group's share of a resource
abbrev pub share_of : Resource → Cgroup → Share
share_of Cpus n = n.shares.value.cpus
share_of Mems n = n.shares.value.mems

-- the share of a group that requests nothing
abbrev pub unrequested : Ids → Share
unrequested ids = record { requested = set.empty; effective = ids }

-- what an entry requests of a resource
abbrev pub requested_of : Resource → GroupEntry → Ids
requested_of Cpus = λ e. e.cpus
requested_of Mems = λ e. e.mems

-- what the root has in effect of a resource
abbrev pub top_of : Resource → Ids → Ids → Ids
top_of Cpus online nodes = online
top_of Mems online nodes = nodes

-- what is kept of a group is what it has in effect
abbrev pub KeepsEffective : Resource → Ids → List GroupEntry → Cgroup → Type 0
KeepsEffective r top older n = (share_of r n).effective ≡ standing n.parent (share_of r n).requested top (effective (requested_of r) top older)

-- the same of each of these keys' groups
abbrev pub AllKept : Resource → Slab Cgroup → Ids → List ℕ → Type 0
AllKept r s top [] = Unit {0}
AllKept r s top (key ∷ older) = ((n : Cgroup) → get s key ≡ Some n → KeepsEffective r top (entries_kept s older) n) × AllKept r s top older

-- no group has a newer parent than the one of this serial
abbrev pub AreParentsUpTo : Slab Cgroup → ℕ → Type 0
AreParentsUpTo s newest = (key : ℕ) (n : Cgroup) (p : Group) → get s key ≡ Some n → n.parent ≡ Some p → p.serial ≤ newest

-- the slab's groups are those of these keys, in order, with their effective sets
pub record IsSound (s : Slab Cgroup) (keys : List ℕ) (online nodes : Ids) (root : Group) (next : ℕ) : Type 0 where
  pub in_order : IsInOrder s next keys
  pub all_kept : (r : Resource) → AllKept r s (top_of r online nodes) keys
  pub complete : (key : ℕ) → is_some (get s key) ≡ true → list_any (λ k. k == key) keys ≡ true
  pub rooted : root_among (entries_kept s keys) ≡ Some root

-- what the tree keeps of a group, if it is there
abbrev pub IsKeptOf : TreeState → Group → Option Cgroup → Type 0
IsKeptOf s g None = entry_of s g ≡ None
IsKeptOf s g (Some n) =
    (entry_of s g ≡ Some (entry_of_kept n)) × (n.shares.value.cpus.effective ≡ effective_cpus s g) × (n.shares.value.mems.effective ≡ effective_mems s g)

-- what is kept of a resource as a group's effective set, and nothing where there is no group
abbrev pub effective_kept : Resource → Option Cgroup → Ids
effective_kept r None = set.empty
effective_kept r (Some n) = (share_of r n).effective

-- what a group is to have in effect, if what is kept of its parent is right
abbrev pub stands : Resource → Slab Cgroup → Ids → Cgroup → Ids
stands r s top n = standing n.parent (share_of r n).requested top (λ p. effective_kept r (get s p.key))

-- the group, with these shares
abbrev pub with_shares : Shares → Cgroup → Cgroup
with_shares shares n = record n { shares = record n.shares { value = shares } }

-- the group, requesting this of a resource
abbrev pub with_requested : Resource → Ids → Cgroup → Cgroup
with_requested Cpus ids n = with_shares (record n.shares.value { cpus = record n.shares.value.cpus { requested = ids } }) n
with_requested Mems ids n = with_shares (record n.shares.value { mems = record n.shares.value.mems { requested = ids } }) n

-- the group, with this in effect of a resource
abbrev pub with_effective : Resource → Ids → Cgroup → Cgroup
with_effective Cpus ids n = with_shares (record n.shares.value { cpus = record n.shares.value.cpus { effective = ids } }) n
with_effective Mems ids n = with_shares (record n.shares.value { mems = record n.shares.value.mems { effective = ids } }) n

-- the entry, requesting this of a resource if it is this group's
abbrev pub requesting : Resource → Group → Ids → GroupEntry → GroupEntry
requesting Cpus g ids e = requesting_cpus g ids e
requesting Mems g ids e = requesting_mems g ids e

-- the tree where a group requests this of a resource
abbrev pub with_request : Resource → TreeState → Group → Ids → TreeState
with_request Cpus s g ids = with_cpus s g ids
with_request Mems s g ids = with_mems s g ids

-- whether there is a group that is older than the one of this serial
abbrev pub is_older : ℕ → Option Cgroup → Bool
is_older written None = false
is_older written (Some n) = nat_lt n.group.serial written

-- whether a parent is no older than the group of this serial
abbrev pub is_from : ℕ → Option Group → Bool
is_from written None = false
is_from written (Some parent) = nat_le written parent.serial

-- whether a write of the group of this serial can change what a group has: it is that group, or its parent is no older
abbrev pub may_change : ℕ → Cgroup → Bool
may_change written n = is_from written n.parent || (n.group.serial == written)

-- the group, brought up to date where such a write can change what it has
abbrev pub passed : Resource → Slab Cgroup → Ids → ℕ → Cgroup → Cgroup
passed r s top written n = if may_change written n then with_effective r (stands r s top n) n else n

-- what is kept of a group is what it is granted of what is kept of its parent
abbrev pub IsGranted : Resource → Slab Cgroup → Ids → Cgroup → Type 0
IsGranted r s top n = (share_of r n).effective ≡ stands r s top n

-- the same of each group that a write of the group of this serial can't change
abbrev pub OthersGranted : Resource → Slab Cgroup → Ids → ℕ → Type 0
OthersGranted r s top written = (key : ℕ) (n : Cgroup) → get s key ≡ Some n → may_change written n ≡ false → IsGranted r s top n

-- the same of each group under another key than this one
abbrev pub ElsewhereGranted : Resource → Slab Cgroup → Ids → ℕ → Type 0
ElsewhereGranted r s top key = (other : ℕ) (n : Cgroup) → other ≢ key → get s other ≡ Some n → IsGranted r s top n

-- a change of the group under one key, by f
pub record ChangesAt (old new : Slab Cgroup) (key : ℕ) (f : Cgroup → Cgroup) : Type 0 where
  pub changed : get new key ≡ option_map f (get old key)
  pub others : (other : ℕ) → other ≢ key → get new other ≡ get old other

-- a kept group without what is kept as effective of a resource
abbrev pub bare : Resource → Cgroup → Cgroup
bare r n = with_effective r set.empty n

-- the groups are the same, except for what is kept as effective of a resource
abbrev pub OnlyKeptDiffers : Resource → Slab Cgroup → Slab Cgroup → Type 0
OnlyKeptDiffers r old new = (key : ℕ) → option_map (bare r) (get new key) ≡ option_map (bare r) (get old key)

-- a number that the bytes of a name lead to from another
abbrev pub mark_from : ℕ → List ℕ → ℕ
mark_from mark [] = mark
mark_from mark (byte ∷ bytes) = mark_from (((mark * 16777619) % 2 ^ 32 + byte) % 2 ^ 32) bytes

-- the mark of a parent's child of this name
abbrev pub mark_of : Group → List ℕ → ℕ
mark_of parent name = mark_from (parent.serial % 2 ^ 32) name

-- the mark of each child stands at its key
abbrev pub AreMarked : Slab Cgroup → List ℕ → Type 0
AreMarked s marks = (key : ℕ) (n : Cgroup) (p : Group) → get s key ≡ Some n → n.parent ≡ Some p
    → (key < length marks) × (slice_index_or marks key 0 ≡ mark_of p (string_bytes n.name))

-- the numbers at other places than this one are the same
abbrev pub AreSameBut : ℕ → List ℕ → List ℕ → Type 0
AreSameBut key old new = (k : ℕ) → k ≢ key → k < length old → (k < length new) × (slice_index_or new k 0 ≡ slice_index_or old k 0)

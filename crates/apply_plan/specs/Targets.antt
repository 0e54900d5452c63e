-- A hand-over as a plain value, and when one may begin.
use Rattle.std.specs.Prelude.{◌≡◌, ℕ, true, false, ◌||◌, List, map}
use Rattle.std.specs.List.{AllByRecursion}
use Rattle.std.specs.FinSet as set
use Rattle.std.specs.Coded.{Coded, code_by, coded×, coded_ℕ, coded_bool, coded_list}
use Rattle.std.specs.Prelude.{refl, Bool}
use Rattle.cpu_set.specs.Ids.{Ids, ids_code, is_empty}
use Rattle.cpuset_tree.specs.declared.Group.{Group}
use Rattle.cpuset_tree.specs.TreeState.{group_code}
use Rattle.cpuset_tree.specs.Groups.{same_group, has_group, is_root}
use Rattle.kernel_model.specs.KernelState.{KernelState}
use Rattle.apply_plan.specs.declared.entry.Entry.{Entry}
use Rattle.apply_plan.specs.Holders.{Holder, Pairwise}

-- containers with their targets, and the reserved CPUs
pub record Targets : Type 0 where
  pub entries : List Entry
  pub reserved : Ids

-- an entry is stored as the tuple of its fields
abbrev pub entry_code : Coded Entry
entry_code =
    code_by
    (Group × (ℕ × (Bool × Ids)))
    (coded× group_code (coded× coded_ℕ (coded× coded_bool ids_code)))
    (λ e. (e.group, (e.pid, (e.pinned, e.target))))
    (λ p. record { group = p.0; pid = p.1.0; pinned = p.1.1.0; target = p.1.1.1 })
    (λ _. refl)

abbrev pub targets_code : Coded Targets
targets_code =
    code_by (List Entry × Ids) (coded× (coded_list entry_code) ids_code) (λ h. (h.entries, h.reserved)) (λ p. record { entries = p.0; reserved = p.1 }) (λ _. refl)

-- the container of an entry
abbrev pub holder_of : Entry → Holder
holder_of e = record { group = e.group; pid = e.pid; pinned = e.pinned }

-- the entries of a hand-over as containers
abbrev pub holders_of : List Entry → List Holder
holders_of entries = map holder_of entries

-- the groups are two
abbrev pub HaveOtherGroups : Entry → Entry → Type 0
HaveOtherGroups a b = same_group a.group b.group ≡ false

-- where one is pinned, both are to have no CPU but reserved ones
abbrev pub AreTargetsApart : Ids → Entry → Entry → Type 0
AreTargetsApart reserved a b =
    (a.pinned || b.pinned) ≡ true
    → (cpu : ℕ) → set.contains a.target cpu ≡ true → set.contains b.target cpu ≡ true → set.contains reserved cpu ≡ true

-- none is to have nothing
abbrev pub HaveSomeTarget : List Entry → Type 0
HaveSomeTarget entries = AllByRecursion (λ e. is_empty e.target ≡ false) entries

-- when a hand-over may begin: each group is there once; outside the reserved CPUs the target of a pinned container meets no
-- other; no target is empty, nor are the reserved CPUs
pub record IsHandover (h : Targets) : Type 0 where
  pub groups : Pairwise HaveOtherGroups h.entries
  pub apart : Pairwise (AreTargetsApart h.reserved) h.entries
  pub some : HaveSomeTarget h.entries
  pub reserve : is_empty h.reserved ≡ false

-- the group is in the tree, and is not the root
pub record IsPlaced (k : KernelState) (g : Group) : Type 0 where
  pub there : has_group k.tree g ≡ true
  pub below : is_root k.tree g ≡ false

-- the groups of entries are in the tree, and none is the root
abbrev pub ArePlaced : KernelState → List Entry → Type 0
ArePlaced k entries = AllByRecursion (λ e. IsPlaced k e.group) entries

-- When a JSON value has what a machine file has to have: each member of its kind. What the members say is another matter.
use Rattle.std.specs.Prelude.{◌≡◌, ◌≢◌, ℕ, ◌<◌, true, length, map, slice_index_or, AllPairs, List, Option, Some, None, is_some, option_and_then}
use Rattle.std.specs.List.{list_all}
use Rattle.std.specs.FinSet as set
use Rattle.cpu_set.specs.Ids.{Ids, IsDisjoint}
use Rattle.serde_json.specs.Data.{Data, null}
use Rattle.serde_json.specs.Find.{as_array, as_object}
use Rattle.slit.specs.Table.{Table}
use Rattle.json_text.specs.Numbers.{unsigned_of}
use Rattle.machine.specs.Listed.{is_list, cpus_named, listed_in}
use Rattle.machine.specs.MachineOf.{said_by}
use Rattle.machine.specs.Members.{nodes_member, distances_member, reserved_member, offline_member, cores_member, items_of, items_in}
use Rattle.machine.specs.Present.{union_of, present}

-- n rows of n whole numbers
pub record IsSquare (n : ℕ) (d : Data) : Type 0 where
  pub array : is_some (as_array d) ≡ true
  pub rows : length (items_of d) ≡ n
  pub arrays : (i : ℕ) → i < n → is_some (as_array (slice_index_or (items_of d) i null)) ≡ true
  pub columns : (i : ℕ) → i < n → length (items_of (slice_index_or (items_of d) i null)) ≡ n
  pub numbers : (i j : ℕ) → i < n → j < n
      → is_some (unsigned_of (slice_index_or (items_of (slice_index_or (items_of d) i null)) j null)) ≡ true

-- the distances between n nodes stand in one of the two places
abbrev pub HasDistances : Option Table → Option Data → ℕ → Type 0
HasDistances (Some t) (Some d) n = ⊥
HasDistances None None n = ⊥
HasDistances (Some t) None n = t.localities ≡ n
HasDistances None (Some d) n = IsSquare n d

-- the cores between which all CPUs are shared out: of each one at least, and no CPU in two of them
pub record AreSharedOut (cpus : Ids) (cores : List Ids) : Type 0 where
  pub some : (k : ℕ) → k < length cores → slice_index_or cores k set.empty ≢ set.empty
  pub apart : AllPairs IsDisjoint cores
  pub all : union_of cores ≡ cpus

-- an array of lists of CPUs, between which all CPUs are shared out
pub record HasCores (cpus : Ids) (d : Data) : Type 0 where
  pub array : is_some (as_array d) ≡ true
  pub lists : list_all is_list (items_of d) ≡ true
  pub shared_out : AreSharedOut cpus (map cpus_named (items_of d))

-- the value has the members of a machine file, each of its kind; no CPU is offline that is not present; if cores are listed,
-- all CPUs are shared out between them
pub record HasMembers (slit : Option Table) (d : Data) : Type 0 where
  pub object : is_some (as_object d) ≡ true
  pub nodes : is_some (option_and_then as_array (nodes_member d)) ≡ true
  pub lists : (i : ℕ) → i < length (items_in (nodes_member d)) → is_list (slice_index_or (items_in (nodes_member d)) i null) ≡ true
  pub distances : HasDistances slit (distances_member d) (length (items_in (nodes_member d)))
  pub reserved : (r : Data) × (reserved_member d ≡ Some r) × (is_list r ≡ true)
  pub offline : (o : Data) → offline_member d ≡ Some o → is_list o ≡ true
  pub cores : (c : Data) → cores_member d ≡ Some c → HasCores (present (said_by slit d)) c
  pub offline_present : set.is_subset (listed_in (offline_member d)) (present (said_by slit d)) ≡ true

-- That there is room for the path of each file, after each call.
use Rattle.std.proofs.Common.{◌≡◌, ℕ, suc, ◌+◌, ◌≤◌, true, false, refl, sym, ap, ◌∙◌, subst, arith}
use Rattle.std.specs.Prelude.{⊤, List, [], length, Option, Some, None, is_some, Result, Ok, Err, IfOk, is_ok}
use Rattle.std.proofs.lemmas.Bool.{both_ways}
use Rattle.std.proofs.lemmas.List.{length-append}
use Rattle.faults.specs.declared.or_memory.OrMemory.{OrMemory}
use Rattle.faults.specs.declared.or_memory.OrMemory.TheVariants.{Memory, Fault}
use Rattle.cpu_set.specs.Ids.{Ids}
use Rattle.cpuset_tree.specs.declared.Group.{Group}
use Rattle.cpuset_tree.specs.TreeState.{GroupEntry, TreeState}
use Rattle.cpuset_tree.specs.TreeChanges.{new_entry, without_group, with_cpus, with_mems}
use Rattle.cpuset_tree.specs.TreeAnswers.{AddsGroup}
use Rattle.cpuset_tree.specs.TreeWellFormed as formed
use Rattle.cpuset_tree.specs.Groups.{same_group, entry_among, entry_of, has_group}
use Rattle.cpuset_tree.specs.GroupLemmas.{same_group-equal}
use Rattle.cpuset_tree.specs.Places.{place_in, place_of}
use Rattle.kernel_model.specs.declared.KernelFault.{KernelFault}
use Rattle.kernel_model.specs.declared.KernelFault.TheVariants.{Failed}
use Rattle.kernel_model.specs.Trace.{MadeGroup, RemovedGroup, WroteCpus, WroteMems, Spawned, EndedGroup}
use Rattle.kernel_model.specs.KernelState.{KernelState}
use Rattle.kernel_model.specs.KernelLemmas.{each_case_keeps, writes_keep_tree, events_keep_groups}
use Rattle.kernel_model.specs.Cases.{MakesGroup, RemovesGroup, WritesCpus, WritesMems}
use Rattle.kernel_model.specs.WellFormed.{IsWellFormed}
use Rattle.cgroup_tree.specs.ChangeLemmas.{folder_stays, folder_added, is_old, there_left, folder_left}
use Rattle.cgroup_tree.specs.Events.{Event, Wrote, Forked, Exited, WentOffline, CameOnline, Happens}
use Rattle.cgroup_tree.specs.FolderLemmas.{folder_none}
use Rattle.cgroup_tree.specs.ApartLemmas.{there_in}
use Rattle.cgroup_tree.specs.PastLemmas.{no_place, placed_free}
use Rattle.cgroup_tree.specs.Paths.{folder, below}
use Rattle.cgroup_tree.specs.Room.{HasRoom}
use Rattle.cgroup_tree.specs.Site.{Beginning, Begins}
use Rattle.cgroup_tree.specs.StandingLemmas.{folder_same, places_written, places_written_mems}

abbrev tree_of : KernelState → TreeState
tree_of k = k.tree

-- more room is enough too
pub room_more : (n m : ℕ) (root : List ℕ) (s : TreeState) → n ≤ m → HasRoom n root s → HasRoom m root s
room_more n m root s more room g = omega (arith, more, room g)

-- a group with no place has the root's folder
room_none : (n : ℕ) (root : List ℕ) (s : TreeState) (g : Group) → length root + 24 ≤ n → place_of s g ≡ None → length root + (length (folder s g) + 24) ≤ n
room_none n root s g room none = omega (arith, room, ap length (folder_none s g none))

least_room : (n : ℕ) (root : List ℕ) (s : TreeState) (g : Group) → HasRoom n root s → length root + 24 ≤ n
least_room n root s g room = omega (arith, room g)

-- at the beginning
pub room_new : (n : ℕ) (root : List ℕ) (b : Beginning) (k : KernelState) → Begins b k → length root + 24 ≤ n → HasRoom n root k.tree
room_new n root b k first room g =
    room_none n root k.tree g room
    (ap (λ (t : TreeState). place_of t g) first.first_tree.is ∙ no_place (new_entry first.first_tree.root None []) g refl)

room_tree : (n : ℕ) (root : List ℕ) (s t : TreeState) → t ≡ s → HasRoom n root s → HasRoom n root t
room_tree n root s t same room = subst (λ (x : TreeState). HasRoom n root x) (sym same) room

-- where groups stand in the same places
room_places : (n : ℕ) (root : List ℕ) (s t : TreeState) → ((p : Group) → place_of t p ≡ place_of s p) → HasRoom n root s → HasRoom n root t
room_places n root s t same room g = omega (arith, room g, ap length (folder_same s t same (suc g.serial) g))

room_groups : (n : ℕ) (root : List ℕ) (s t : TreeState) → t.groups ≡ s.groups → HasRoom n root s → HasRoom n root t
room_groups n root s t same room = room_places n root s t (λ g. ap place_in (ap (λ (gs : List GroupEntry). entry_among gs g) same)) room

-- a group that is added, for whose folder there is room
module _ (n : ℕ) (root : List ℕ) (s new : TreeState) (parent g : Group) (name : List ℕ) (well : formed.IsWellFormed s) (after : formed.IsWellFormed new)
    (adds : AddsGroup s parent name g new) (room : HasRoom n root s) (wide : length root + (length (folder s parent) + (length name + 25)) ≤ n) where
  own : length root + (length (folder new g) + 24) ≤ n
  own = omega (arith, wide, ap length (folder_added s new parent g name well after adds), length-append (folder s parent) (below name))

  placed : (h : Group) (o : Option (Group × List ℕ)) → place_of new h ≡ o → same_group g h ≡ false → length root + (length (folder new h) + 24) ≤ n
  placed h None none other = room_none n root new h (least_room n root s h room) none
  placed h (Some place) is other =
      omega (arith, room h, ap length (folder_stays s new parent g name well after adds h (is_old s new parent g name well after adds h other (ap is_some is))))

  room_added : HasRoom n root new
  room_added h =
      elim (same_group g h) as (λ b. same_group g h ≡ b → length root + (length (folder new h) + 24) ≤ n) [
        | true ↦ λ same. subst (λ (k : Group). length root + (length (folder new k) + 24) ≤ n) (same_group-equal g h same) own
        | false ↦ λ other. placed h (place_of new h) refl other
      ] refl

-- a group that is removed
module _ (n : ℕ) (root : List ℕ) (s : TreeState) (g : Group) (after : formed.IsWellFormed (without_group s g)) (room : HasRoom n root s) where
  left : (h : Group) (o : Option (Group × List ℕ)) → place_of (without_group s g) h ≡ o → length root + (length (folder (without_group s g) h) + 24) ≤ n
  left h None none = room_none n root (without_group s g) h (least_room n root s h room) none
  left h (Some place) is = omega (arith, room h, ap length (folder_left s g after h (there_left s g after h (ap is_some is))))

  room_left : HasRoom n root (without_group s g)
  room_left h = left h (place_of (without_group s g) h) refl

-- the room that a call makes: for the folder of a new group
abbrev pub RoomFor : ℕ → List ℕ → KernelState → Event → Type 0
RoomFor n root k (Wrote (MadeGroup parent name (Ok g))) = length root + (length (folder k.tree parent) + (length name + 25)) ≤ n
RoomFor n root k event = ⊤

module _ (n : ℕ) (root : List ℕ) (old : KernelState) (well : IsWellFormed old) (room : HasRoom n root old.tree) where
  of_remove : (g : Group) (r : Result (Unit {0}) KernelFault) (new : KernelState) → RemovesGroup old g r new → HasRoom n root new.tree
  of_remove g (Ok value) new h =
      room_tree n root (without_group old.tree g) new.tree (ap tree_of h.1) (room_left n root old.tree g
      (subst (λ (t : TreeState). formed.IsWellFormed t) (ap tree_of h.1) ((each_case_keeps old new well).remove g (Ok value) h).well_formed.tree) room)
  of_remove g (Err Failed) new h = room_tree n root old.tree new.tree (ap tree_of h) room
  of_remove g (Err fault) new h = room_tree n root old.tree new.tree (ap tree_of h.1) room

  of_cpus : (g : Group) (cpus : Ids) (r : Result (Unit {0}) KernelFault) (new : KernelState) → WritesCpus old g cpus r new → HasRoom n root new.tree
  of_cpus g cpus (Ok value) new h = room_tree n root (with_cpus old.tree g cpus) new.tree (ap tree_of h.1) (room_places n root old.tree (with_cpus old.tree g cpus) (places_written old.tree g cpus) room)
  of_cpus g cpus (Err Failed) new h = room_tree n root old.tree new.tree (ap tree_of h) room
  of_cpus g cpus (Err fault) new h = room_tree n root old.tree new.tree (ap tree_of h.1) room

  of_mems : (g : Group) (mems : Ids) (r : Result (Unit {0}) KernelFault) (new : KernelState) → WritesMems old g mems r new → HasRoom n root new.tree
  of_mems g mems (Ok value) new h = room_tree n root (with_mems old.tree g mems) new.tree (ap tree_of h.1) (room_places n root old.tree (with_mems old.tree g mems) (places_written_mems old.tree g mems) room)
  of_mems g mems (Err Failed) new h = room_tree n root old.tree new.tree (ap tree_of h) room
  of_mems g mems (Err fault) new h = room_tree n root old.tree new.tree (ap tree_of h.1) room

  of_make : (parent : Group) (name : List ℕ) (r : Result Group (OrMemory KernelFault)) (new : KernelState) → MakesGroup old parent name r new → RoomFor n root old (Wrote (MadeGroup parent name r))
      → HasRoom n root new.tree
  of_make parent name (Ok g) new h wide =
      room_added n root old.tree new.tree parent g name well.tree ((each_case_keeps old new well).make parent name (Ok g) h).well_formed.tree h.1.does room wide
  of_make parent name (Err Memory) new h wide = room_tree n root old.tree new.tree (ap tree_of h.1) room
  of_make parent name (Err (Fault Failed)) new h wide = room_tree n root old.tree new.tree (ap tree_of h) room
  of_make parent name (Err (Fault fault)) new h wide = room_tree n root old.tree new.tree (ap tree_of h.1) room

  room_step : (event : Event) (new : KernelState) → Happens old event new → RoomFor n root old event → HasRoom n root new.tree
  room_step (Wrote (MadeGroup parent name r)) new h wide = of_make parent name r new h wide
  room_step (Wrote (RemovedGroup g r)) new h wide = of_remove g r new h
  room_step (Wrote (WroteCpus g cpus r)) new h wide = of_cpus g cpus r new h
  room_step (Wrote (WroteMems g mems r)) new h wide = of_mems g mems r new h
  room_step (Wrote (EndedGroup g r)) new h wide = room_tree n root old.tree new.tree (writes_keep_tree.end old new g r h) room
  room_step (Wrote (Spawned g r)) new h wide = room_tree n root old.tree new.tree (writes_keep_tree.spawn old new g r h) room
  room_step (Forked parent r) new h wide = room_groups n root old.tree new.tree (events_keep_groups.fork old new parent r h).0.groups room
  room_step (Exited pid r) new h wide = room_groups n root old.tree new.tree (events_keep_groups.exit old new pid r h).0.groups room
  room_step (WentOffline cpu r) new h wide = room_groups n root old.tree new.tree (events_keep_groups.offline old new cpu r h).0.groups room
  room_step (CameOnline cpu r) new h wide = room_groups n root old.tree new.tree (events_keep_groups.online old new cpu r h).0.groups room

-- the room that was made for a group
pub room_for : (n : ℕ) (root : List ℕ) (k : KernelState) (parent : Group) (name : List ℕ) (r : Result Group (OrMemory KernelFault))
    → IfOk r (λ g. length root + (length (folder k.tree parent) + (length name + 25)) ≤ n) → RoomFor n root k (Wrote (MadeGroup parent name r))
room_for n root k parent name (Ok g) wide = wide
room_for n root k parent name (Err error) wide = tt

-- a call leaves room, in as many bytes or more
pub goes_on_in_room : (n m : ℕ) (root : List ℕ) (old new : KernelState) (event : Event) → IsWellFormed old → n ≤ m → HasRoom n root old.tree → Happens old event new
    → RoomFor m root old event → HasRoom m root new.tree
goes_on_in_room n m root old new event well more room happens wide = room_step m root old well (room_more n m root old.tree more room) event new happens wide

-- a write of CPUs that is Ok
pub is_done : (old : KernelState) (g : Group) (cpus : Ids) (r : Result (Unit {0}) KernelFault) (new : KernelState) → is_ok r ≡ true → WritesCpus old g cpus r new
    → WritesCpus old g cpus (Ok tt) new
is_done old g cpus (Ok value) new ok h = h
is_done old g cpus (Err fault) new ok h = absurd (both_ways false refl ok)

-- it leaves room for the paths
pub room_written : (n : ℕ) (root : List ℕ) (old : KernelState) (g : Group) (cpus : Ids) (new : KernelState) → HasRoom n root old.tree → WritesCpus old g cpus (Ok tt) new
    → HasRoom n root new.tree
room_written n root old g cpus new room h =
    room_tree n root (with_cpus old.tree g cpus) new.tree (ap tree_of h.1) (room_places n root old.tree (with_cpus old.tree g cpus) (places_written old.tree g cpus) room)

-- a group whose CPUs were written is there
pub is_there : (old : KernelState) (g : Group) (cpus : Ids) (new : KernelState) → WritesCpus old g cpus (Ok tt) new → has_group new.tree g ≡ true
is_there old g cpus new h =
    subst (λ (t : TreeState). has_group t g ≡ true) (sym (ap tree_of h.1))
    (there_in (entry_of (with_cpus old.tree g cpus) g) (ap is_some (places_written old.tree g cpus g) ∙ placed_free old g h.0))

-- What a write of one group, and then the refresh, leave.
use Rattle.std.proofs.Common.{◌≡◌, ℕ, true, false, List, [], ◌∷◌, refl, sym, ap, ◌∙◌, subst, map}
use Rattle.std.proofs.lemmas.Bool.{cond-true, cond-false}
use Rattle.std.specs.Prelude.{Option, Some, None, option_map}
use Rattle.slab.specs.Slab.{Slab, get}
use Rattle.cpu_set.specs.Ids.{Ids}
use Rattle.cpuset_tree.specs.declared.groups.Group.{Group}
use Rattle.cpuset_tree.specs.declared.groups.Cgroup.{Cgroup}
use Rattle.cpuset_tree.specs.declared.groups.Resource.{Resource}
use Rattle.cpuset_tree.specs.declared.groups.Resource.TheVariants.{Cpus, Mems}
use Rattle.cpuset_tree.specs.TreeState.{GroupEntry, TreeState}
use Rattle.cpuset_tree.specs.Groups.{same_group}
use Rattle.cpuset_tree.specs.Kept.{entry_of_kept, before, entries_kept, IsOrder, top_of, AllKept, IsSound, with_requested, requesting, with_request, ChangesAt, bare, OnlyKeptDiffers}
use Rattle.cpuset_tree.proofs.PlaceLemmas.{SamePlaces, SamePlaces-from_kept, same_from_change, IsOrder-same}
use Rattle.cpuset_tree.proofs.ShareLemmas.{held, SameHeld, AllKept-same}
use Rattle.cpuset_tree.proofs.ChangeLemmas.{listed-written}
use Rattle.cpuset_tree.proofs.RefreshLemmas.{requested_place}
use Rattle.cpuset_tree.proofs.SoundLemmas.{IsSound-same}
use Rattle.cpuset_tree.proofs.CgroupLemmas.{KeptThere}

before-bare : (r : Resource) (o : Option Cgroup) (l : List GroupEntry) → before o l ≡ before (option_map (bare r) o) l
before-bare r None l = refl
before-bare Cpus (Some n) l = refl
before-bare Mems (Some n) l = refl

-- what is listed is the same where only the kept sets differ
pub listed-kept : (r : Resource) (old new : Slab Cgroup) → OnlyKeptDiffers r old new → (keys : List ℕ) → entries_kept new keys ≡ entries_kept old keys
listed-kept r old new same [] = refl
listed-kept r old new same (k ∷ older) =
    before-bare r (get new k) (entries_kept new older)
    ∙ ap (λ (o : Option Cgroup). before o (entries_kept new older)) (same k)
    ∙ sym (before-bare r (get old k) (entries_kept new older))
    ∙ ap (before (get old k)) (listed-kept r old new same older)

-- the resource that is not this one
abbrev other : Resource → Resource
other Cpus = Mems
other Mems = Cpus

both : (P : Resource → Type 0) (r : Resource) → P r → P (other r) → (q : Resource) → P q
both P Cpus own else Cpus = own
both P Cpus own else Mems = else
both P Mems own else Cpus = else
both P Mems own else Mems = own

other_bare : (r : Resource) (o : Option Cgroup) → option_map (held (other r)) o ≡ option_map (held (other r)) (option_map (bare r) o)
other_bare r None = refl
other_bare Cpus (Some n) = refl
other_bare Mems (Some n) = refl

-- what is kept as effective of one resource is nothing to the other
pub SameHeld-from_kept : (r : Resource) (old new : Slab Cgroup) → OnlyKeptDiffers r old new → SameHeld (other r) old new
SameHeld-from_kept r old new same key = other_bare r (get new key) ∙ ap (option_map (held (other r))) (same key) ∙ sym (other_bare r (get old key))

other_requested : (r : Resource) (ids : Ids) (n : Cgroup) → held (other r) (with_requested r ids n) ≡ held (other r) n
other_requested Cpus ids n = refl
other_requested Mems ids n = refl

-- one resource is brought up to date, and the other is as it was
pub IsSound-refreshed : (r : Resource) (old new : Slab Cgroup) (keys : List ℕ) (online nodes now all : Ids) (root : Group) (next : ℕ)
    → IsSound old keys online nodes root next → SamePlaces old new → SameHeld (other r) old new
    → top_of (other r) now all ≡ top_of (other r) online nodes → AllKept r new (top_of r now all) keys → IsSound new keys now all root next
IsSound-refreshed r old new keys online nodes now all root next sound places held top kept =
    IsSound-same old new keys online nodes now all root next sound places
    (both (λ q. AllKept q new (top_of q now all) keys) r kept
    (subst (λ (t : Ids). AllKept (other r) new t keys) (sym top) (AllKept-same (other r) old new held (top_of (other r) online nodes) keys (sound.all_kept (other r)))))

-- what a group requests of a resource is written
module _ (r : Resource) (ids : Ids) (old mid : Slab Cgroup) (keys : List ℕ) (online nodes : Ids) (root : Group) (next : ℕ) (g : Group)
    (sound : IsSound old keys online nodes root next) (change : ChangesAt old mid g.key (with_requested r ids)) where
  pub written_places : SamePlaces old mid
  written_places = same_from_change (with_requested r ids) _ (requested_place r ids) old mid g.key change

  pub written_order : IsOrder mid keys
  written_order = IsOrder-same old mid written_places keys (next, sound.in_order)

  pub written_sound : (new : Slab Cgroup) → OnlyKeptDiffers r mid new → AllKept r new (top_of r online nodes) keys → IsSound new keys online nodes root next
  written_sound new same kept =
      IsSound-refreshed r old new keys online nodes online nodes root next sound
      (λ k. SamePlaces-from_kept r mid new same k ∙ written_places k)
      (λ k. SameHeld-from_kept r mid new same k ∙ same_from_change (with_requested r ids) (held (other r)) (other_requested r ids) old mid g.key change k)
      refl kept

  pub listed-request : (new : Slab Cgroup) → KeptThere old keys g → OnlyKeptDiffers r mid new → entries_kept new keys ≡ map (requesting r g ids) (entries_kept old keys)
  listed-request new there same =
      listed-kept r mid new same keys
      ∙ listed-written old mid g (with_requested r ids) (requesting r g ids) (here r) (elsewhere r)
      next keys sound.in_order change there.kept there.at there.same
    where
      here : (r : Resource) (m : Cgroup) → same_group m.group g ≡ true → entry_of_kept (with_requested r ids m) ≡ requesting r g ids (entry_of_kept m)
      here Cpus m is = sym (cond-true (same_group m.group g) (record (entry_of_kept m) { cpus = ids }) (entry_of_kept m) is)
      here Mems m is = sym (cond-true (same_group m.group g) (record (entry_of_kept m) { mems = ids }) (entry_of_kept m) is)

      elsewhere : (r : Resource) (m : Cgroup) → same_group m.group g ≡ false → entry_of_kept m ≡ requesting r g ids (entry_of_kept m)
      elsewhere Cpus m is = sym (cond-false (same_group m.group g) (record (entry_of_kept m) { cpus = ids }) (entry_of_kept m) is)
      elsewhere Mems m is = sym (cond-false (same_group m.group g) (record (entry_of_kept m) { mems = ids }) (entry_of_kept m) is)

-- the tree whose groups are these
pub with_request_is : (r : Resource) (s : TreeState) (g : Group) (ids : Ids) (groups : List GroupEntry) → groups ≡ map (requesting r g ids) s.groups
    → record s { groups = groups } ≡ with_request r s g ids
with_request_is Cpus s g ids groups is = λ j. record { groups = is j; online = s.online; nodes = s.nodes; next_serial = s.next_serial }
with_request_is Mems s g ids groups is = λ j. record { groups = is j; online = s.online; nodes = s.nodes; next_serial = s.next_serial }

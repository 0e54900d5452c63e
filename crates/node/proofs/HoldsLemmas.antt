-- What a change of the kernel leaves of what holds of a node.
use Rattle.std.proofs.Common.{◌≡◌, inl, inr, ℕ, ◌<◌, ◌≤◌, Bool, true, false, List, [], ◌∷◌, Option, Some, None, refl, sym, ap, ◌∙◌, subst, arith}
use Rattle.std.proofs.lemmas.Bool.{false≢true, cases_eq}
use Rattle.std.proofs.lemmas.Option.{none-some}
use Rattle.std.specs.Prelude.{map, is_some}
use Rattle.std.specs.List.{AllByRecursion}
use Rattle.std.specs.FinSet as set
use Rattle.cpu_set.specs.Ids.{Ids, is_empty}
use Rattle.cpuset_tree.specs.declared.Group.{Group}
use Rattle.cpuset_tree.specs.TreeState.{TreeState}
use Rattle.cpuset_tree.specs.Groups.{entry_among, entry_of, root_among, requested_cpus, cpus_in}
use Rattle.proctable.specs.declared.Process.{Process}
use Rattle.proctable.specs.TableState.{TableState}
use Rattle.proctable.specs.Processes.{process_of, is_alive}
use Rattle.proctable.specs.TableLaws.{SomeEnd, ProcessAdded}
use Rattle.kernel_model.specs.KernelState.{KernelState}
use Rattle.kernel_model.specs.Laws.{StepKeeps}
use Rattle.apply_plan.specs.Holders.{Holder, Pairwise, AreApart, HasSome, IsSafe}
use Rattle.node.specs.Owners.{Owner}
use Rattle.kernel_model.specs.WellFormed.{IsWellFormed}
use Rattle.node.specs.IsNode.{IsHome, IsShallow, HaveOtherIds, IsPlaced, IsFirst, IsOwned, AreOwned, Holds}
use Rattle.node.proofs.ListLemmas.{all_map, all_map2, pairs_map, all_of_map, of_all_map, pairs_of_map, of_pairs_map}

abbrev holder : Owner → Holder
holder o = o.holder

-- what is safe, said of the owners
pub record AreSafeOwners (k : KernelState) (reserved : Ids) (owners : List Owner) : Type 0 where
  pub apart : Pairwise (λ a b. AreApart k reserved (requested_cpus k.tree) a.holder b.holder) owners
  pub some : AllByRecursion (λ o. HasSome k (requested_cpus k.tree) o.holder) owners

pub of_safe : (k : KernelState) (reserved : Ids) (owners : List Owner) → IsSafe k reserved (map (λ o. o.holder) owners) → AreSafeOwners k reserved owners
of_safe k reserved owners h = record {
  apart = of_pairs_map holder (AreApart k reserved (requested_cpus k.tree)) owners h.apart;
  some = of_all_map holder (HasSome k (requested_cpus k.tree)) owners h.some;
}

pub to_safe : (k : KernelState) (reserved : Ids) (owners : List Owner) → AreSafeOwners k reserved owners → IsSafe k reserved (map (λ o. o.holder) owners)
to_safe k reserved owners h = record {
  apart = pairs_of_map holder (AreApart k reserved (requested_cpus k.tree)) owners h.apart;
  some = all_of_map holder (HasSome k (requested_cpus k.tree)) owners h.some;
}

-- all that holds of a node but whose the processes are
pub record IsLeft (k : KernelState) (parent : Group) (owners : List Owner) : Type 0 where
  pub kernel : IsWellFormed k
  pub home : IsHome k.tree parent
  pub shallow : IsShallow k.tree parent
  pub distinct : Pairwise HaveOtherIds owners
  pub placed : AllByRecursion (IsPlaced k.tree parent) owners
  pub first : AllByRecursion (λ o. IsFirst k.table o.holder) owners
  pub safe : AreSafeOwners k k.reserved owners

pub with_owned : (k : KernelState) (parent : Group) (owners : List Owner) → IsLeft k parent owners → AreOwned k.table owners → Holds k parent owners
with_owned k parent owners h owned = record {
  kernel = h.kernel;
  home = h.home;
  shallow = h.shallow;
  distinct = h.distinct;
  placed = h.placed;
  first = h.first;
  owned = owned;
  safe = to_safe k k.reserved owners h.safe;
}

-- what a change of the tree leaves of the containers' groups
pub record KeepsPlaces (old new : TreeState) (parent : Group) (owners : List Owner) : Type 0 where
  pub home : IsHome new parent
  pub shallow : IsShallow new parent
  pub placed : AllByRecursion (IsPlaced new parent) owners
  pub requested : AllByRecursion (λ o. requested_cpus new o.holder.group ≡ requested_cpus old o.holder.group) owners

-- where all groups are as they were
module _ (old new : TreeState) (same : new.groups ≡ old.groups) where
  entries : (g : Group) → entry_of new g ≡ entry_of old g
  entries g = ap (λ groups. entry_among groups g) same

  pub same_home : (parent : Group) → IsHome old parent → IsHome new parent
  same_home parent h = record {
    entry = h.entry;
    root = h.root;
    there = entries parent ∙ h.there;
    top = ap root_among same ∙ h.top;
    below = h.below;
    name = h.name;
    free_cpus = h.free_cpus;
    free_mems = h.free_mems;
  }

  pub same_shallow : (parent : Group) → IsShallow old parent → IsShallow new parent
  same_shallow parent h g q e there below =
      elim (h g q e (sym (entries g) ∙ there) below) [ inl home ↦ inl home | inr top ↦ inr (ap root_among same ∙ top) ]

  same_placed : (parent : Group) (o : Owner) → IsPlaced old parent o → IsPlaced new parent o
  same_placed parent o h = record { entry = h.entry; there = entries o.holder.group ∙ h.there; below = h.below; named = h.named }

  pub same_places : (parent : Group) (owners : List Owner) → IsHome old parent → IsShallow old parent → AllByRecursion (IsPlaced old parent) owners
      → KeepsPlaces old new parent owners
  same_places parent owners home shallow placed = record {
    home = same_home parent home;
    shallow = same_shallow parent shallow;
    placed = all_map (IsPlaced old parent) (IsPlaced new parent) (same_placed parent) owners placed;
    requested = all_map (IsPlaced old parent) (λ o. requested_cpus new o.holder.group ≡ requested_cpus old o.holder.group)
        (λ o h. ap cpus_in (entries o.holder.group)) owners placed;
  }

some_of : (o : Option Process) → is_some o ≡ true → (p : Process) × (o ≡ Some p)
some_of (Some p) e = (p, refl)
some_of None e = absurd (false≢true e)

-- what a call of the kernel leaves of one container
pub record EachKept (old new : KernelState) (o : Owner) : Type 0 where
  pub first : IsFirst new.table o.holder
  pub requested : requested_cpus new.tree o.holder.group ≡ requested_cpus old.tree o.holder.group
  pub dies : is_alive new.table o.holder.pid ≡ true → is_alive old.table o.holder.pid ≡ true

module _ (old new : KernelState) (keeps : StepKeeps old new) where
  still_first : (h : Holder) → IsFirst old.table h → IsFirst new.table h
  still_first h f =
      let rise : old.table.next_pid ≤ new.table.next_pid = keeps.pids.rise in
      let given : h.pid < old.table.next_pid = f.given in
      record {
        given = omega (arith, rise, given);
        group = λ p e. f.group p (keeps.pids.same h.pid p given e);
        itself = λ p e. f.itself p (keeps.pids.same h.pid p given e);
      }

  dies : (h : Holder) → IsFirst old.table h → is_alive new.table h.pid ≡ true → is_alive old.table h.pid ≡ true
  dies h f live =
      let found = some_of (process_of new.table h.pid) live in
      ap is_some (keeps.pids.same h.pid found.0 f.given found.1)

  pub each_kept : (parent : Group) (owners : List Owner) → Holds old parent owners → KeepsPlaces old.tree new.tree parent owners → AllByRecursion (EachKept old new) owners
  each_kept parent owners h places =
      all_map2 (λ o. IsFirst old.table o.holder) (λ o. requested_cpus new.tree o.holder.group ≡ requested_cpus old.tree o.holder.group) (EachKept old new)
      (λ o f r. record { first = still_first o.holder f; requested = r; dies = dies o.holder f }) owners h.first places.requested

  -- what a call leaves that leaves the containers' groups, whatever processes it makes
  pub left : (parent : Group) (owners : List Owner) → Holds old parent owners → KeepsPlaces old.tree new.tree parent owners → IsLeft new parent owners
  left parent owners h places =
      let each : AllByRecursion (EachKept old new) owners = each_kept parent owners h places in
      let safe : AreSafeOwners old old.reserved owners = of_safe old old.reserved owners h.safe in
      record {
        kernel = keeps.well_formed;
        home = places.home;
        shallow = places.shallow;
        distinct = h.distinct;
        placed = places.placed;
        first = all_map (EachKept old new) (λ o. IsFirst new.table o.holder) (λ o e. e.first) owners each;
        safe = record {
          apart = pairs_map (EachKept old new) (λ a b. AreApart old old.reserved (requested_cpus old.tree) a.holder b.holder)
              (λ a b. AreApart new new.reserved (requested_cpus new.tree) a.holder b.holder)
              (λ a b ka kb apart la lb pinned cpu ha hb. ap (λ r. set.contains r cpu) keeps.machine.reserved
              ∙ apart (ka.dies la) (kb.dies lb) pinned cpu (ap (λ s. set.contains s cpu) (sym ka.requested) ∙ ha) (ap (λ s. set.contains s cpu) (sym kb.requested) ∙ hb))
              owners each safe.apart;
          some = all_map2 (EachKept old new) (λ o. HasSome old (requested_cpus old.tree) o.holder) (λ o. HasSome new (requested_cpus new.tree) o.holder)
              (λ o ko some live. ap is_empty ko.requested ∙ some (ko.dies live)) owners each safe.some;
        };
      }

  -- what holds of the containers holds after a call that leaves their groups, and makes no process that is not theirs
  pub kept : (parent : Group) (owners : List Owner) → Holds old parent owners → KeepsPlaces old.tree new.tree parent owners → AreOwned new.table owners
      → Holds new parent owners
  kept parent owners h places owned = with_owned new parent owners (left parent owners h places) owned

-- whose the processes are
module _ (old new : TableState) (owners : List Owner) (h : AreOwned old owners) where
  pub same_owned : new ≡ old → AreOwned new owners
  same_owned same q p e = h q p (sym (ap (λ t. process_of t q) same) ∙ e)

  -- after the end of some
  pub ended_owned : (ends : Process → Bool) → SomeEnd old new ends → AreOwned new owners
  ended_owned ends s q p e = by (process_of old q) refl where
    by : (o : Option Process) → process_of old q ≡ o → IsOwned p owners
    by None was = absurd (none-some p (sym (s.none q was) ∙ e))
    by (Some p0) was = cases (ends p0) refl where
      cases : (b : Bool) → ends p0 ≡ b → IsOwned p owners
      cases true t = absurd (none-some p (sym (s.end q p0 was t) ∙ e))
      cases false t = let same : p0 ≡ p = cc (s.stay q p0 was t, e) in subst (λ (x : Process). IsOwned x owners) same (h q p0 was)

  -- after one more, which is in the group of another and belongs to the same first process
  pub added_owned : (g : Group) (first pid : ℕ) → ProcessAdded old new g first pid → ((p : Process) → p.group ≡ g → p.first ≡ first → IsOwned p owners) → AreOwned new owners
  added_owned g first pid added its q p e =
      elim (cases_eq q pid) [
        | inl is ↦
            let at : process_of new pid ≡ Some p = subst (λ n. process_of new n ≡ Some p) is e in
            let same : record { pid = pid; group = g; first = first } ≡ p = cc (added.there, at) in
            its p (ap (λ (x : Process). x.group) (sym same)) (ap (λ (x : Process). x.first) (sym same))
        | inr other ↦ h q p (sym (added.others q other) ∙ e)
      ]

-- a process is owned as another of its group that belongs to the same first process
pub owned_alike : (p q : Process) (owners : List Owner) → p.group ≡ q.group → p.first ≡ q.first → IsOwned q owners → IsOwned p owners
owned_alike p q [] g f h = h
owned_alike p q (o ∷ owners) g f h = elim h [ inl own ↦ inl (g ∙ own.0, f ∙ own.1) | inr on ↦ inr (owned_alike p q owners g f on) ]

-- What the sets that containers request are worth.
use Rattle.std.proofs.Common.{◌≡◌, ℕ, Bool, true, false, ◌&&◌, refl, sym, ap, ◌∙◌}
use Rattle.std.proofs.lemmas.Bool.{false≢true, cond-false}
use Rattle.std.specs.List.{AllByRecursion}
use Rattle.std.specs.FinSet as set
use Rattle.cpu_set.specs.Ids.{Ids, is_empty}
use Rattle.cpu_set.specs.PointwiseLaws.{contains-intersection}
use Rattle.cpuset_tree.specs.declared.Group.{Group}
use Rattle.cpuset_tree.specs.Groups.{cpus_in, requested_cpus}
use Rattle.cpuset_tree.specs.Effective.{granted, effective_cpus}
use Rattle.cpuset_tree.specs.TreeLemmas.{two_below_root, grants_within}
use Rattle.proctable.specs.Processes.{is_alive}
use Rattle.kernel_model.specs.KernelState.{KernelState}
use Rattle.kernel_model.specs.WellFormed.{IsWellFormed}
use Rattle.apply_plan.specs.declared.entry.Entry.{Entry}
use Rattle.apply_plan.specs.Holders.{Holder, AreApart, HasSome}
use Rattle.apply_plan.specs.DueWrite.{HasTarget}
use Rattle.apply_plan.specs.Effects.{HasFreeParent, CanTakeEffect, HasOnline, TargetsTakeEffect, SafeInEffect}
use Rattle.apply_plan.specs.ListLemmas.{all_map, all_map2, pairs_map}
use Rattle.cpu_set.specs.SetLaws.{is_empty-empty}

-- a group with a free parent has what it is granted of all that is online
granted_here : (k : KernelState) (g : Group) → IsWellFormed k → HasFreeParent k g → effective_cpus k.tree g ≡ granted (requested_cpus k.tree g) k.tree.online
granted_here k g w p =
    (two_below_root k.tree g p.entry p.above w.tree p.below).cpus p.free ∙ ap (λ s. granted s k.tree.online) (sym (ap cpus_in p.below.there))

takes_effect : (k : KernelState) → IsWellFormed k → (e : Entry) → HasFreeParent k e.group → CanTakeEffect k e × HasTarget k e → is_alive k.table e.pid ≡ true
    → effective_cpus k.tree e.group ≡ e.target
takes_effect k w e p c live =
    granted_here k e.group w p ∙ ap (λ s. granted s k.tree.online) (c.1 live)
    ∙ grants_within e.target k.tree.online (λ none. false≢true (sym c.0.some ∙ is_empty-empty e.target none)) c.0.online

pub targets_take_effect : TargetsTakeEffect
targets_take_effect k entries w parents can have =
    all_map2 (λ e. HasFreeParent k e.group) (λ e. CanTakeEffect k e × HasTarget k e) (λ e. is_alive k.table e.pid ≡ true → effective_cpus k.tree e.group ≡ e.target)
    (takes_effect k w) entries parents (all_map2 (CanTakeEffect k) (HasTarget k) (λ e. CanTakeEffect k e × HasTarget k e) (λ e c t. (c, t)) entries can have)

-- where some of what is requested is online, that is what is granted
some_granted : (requested online : Ids) → is_empty (set.intersection requested online) ≡ false → granted requested online ≡ set.intersection requested online
some_granted requested online e = cond-false (is_empty (set.intersection requested online)) online (set.intersection requested online) e

module _ (k : KernelState) (w : IsWellFormed k) where
  -- a container's set in effect, while it requests a CPU that is online
  in_effect : (a : Holder) → HasFreeParent k a.group → HasOnline k a → is_alive k.table a.pid ≡ true
      → effective_cpus k.tree a.group ≡ set.intersection (requested_cpus k.tree a.group) k.tree.online
  in_effect a p o live = granted_here k a.group w p ∙ some_granted (requested_cpus k.tree a.group) k.tree.online (o live)

  -- a CPU that is in effect is requested
  is_requested : (a : Holder) → HasFreeParent k a.group → HasOnline k a → is_alive k.table a.pid ≡ true → (cpu : ℕ)
      → set.contains (effective_cpus k.tree a.group) cpu ≡ true → set.contains (requested_cpus k.tree a.group) cpu ≡ true
  is_requested a p o live cpu member =
      first (set.contains (requested_cpus k.tree a.group) cpu) (set.contains k.tree.online cpu)
      (sym (contains-intersection (requested_cpus k.tree a.group) k.tree.online cpu) ∙ ap (λ s. set.contains s cpu) (sym (in_effect a p o live)) ∙ member) where
        first : (x y : Bool) → (x && y) ≡ true → x ≡ true
        first true y h = refl
        first false y h = h

pub safe_in_effect : SafeInEffect
safe_in_effect k reserved holders w parents online safe = record {
  apart = pairs_map (λ a. HasFreeParent k a.group × HasOnline k a) (AreApart k reserved (requested_cpus k.tree)) (AreApart k reserved (effective_cpus k.tree))
      (λ a b pa pb apart la lb pinned cpu ina inb.
      apart la lb pinned cpu (is_requested k w a pa.0 pa.1 la cpu ina) (is_requested k w b pb.0 pb.1 lb cpu inb))
      holders both safe.apart;
  some = all_map (λ a. HasFreeParent k a.group × HasOnline k a) (HasSome k (effective_cpus k.tree))
      (λ a p live. ap is_empty (in_effect k w a p.0 p.1 live) ∙ p.1 live) holders both;
} where
  both : AllByRecursion (λ a. HasFreeParent k a.group × HasOnline k a) holders
  both = all_map2 (λ a. HasFreeParent k a.group) (HasOnline k) (λ a. HasFreeParent k a.group × HasOnline k a) (λ a p o. (p, o)) holders parents online

-- Groups are brought up to date one after another, once one CPU has gone offline or come online.
use Rattle.std.proofs.Common.{◌≡◌, ℕ, ◌+◌, ◌<◌, true, false, List, ◌∷◌, drop, length, get_or, refl, sym, ap, ◌∙◌, subst, arith, inl, ⊎_elim}
use Rattle.std.proofs.lemmas.Bool.{cases_eq}
use Rattle.std.proofs.lemmas.List.{drop_more}
use Rattle.std.specs.Prelude.{Bool, Option, Some, None, option_map}
use Rattle.slab.specs.Slab.{Slab, get}
use Rattle.cpu_set.specs.Ids.{Ids}
use Rattle.cpuset_tree.specs.declared.groups.Group.{Group}
use Rattle.cpuset_tree.specs.declared.groups.Cgroup.{Cgroup}
use Rattle.cpuset_tree.specs.declared.groups.Resource.TheVariants.{Cpus}
use Rattle.cpuset_tree.specs.Effective.{standing, granted}
use Rattle.cpuset_tree.specs.Kept.{IsInOrder, IsOrder, effective_kept, stands, may_change, passed, ChangesAt}
use Rattle.cpuset_tree.specs.Near.{IsNear, IsNearAt, WasGranted}
use Rattle.cpuset_tree.proofs.NearLemmas.{near_granted}
use Rattle.cpuset_tree.proofs.KeptLemmas.{key_is_absent, IsOrder-drop}
use Rattle.cpuset_tree.proofs.RefreshLemmas.{IsRefreshing, passed_changed, passed_kept}

-- what is kept of a group under a key
abbrev kept_at : Slab Cgroup → ℕ → Ids
kept_at s key = effective_kept Cpus (get s key)

-- what is near what a group is to have, at the group and its parent that are there
pub near_there : (cpu : ℕ) (s : Slab Cgroup) (key : ℕ) (n : Cgroup) (p : Group) (m : Cgroup) → IsNearAt cpu s key → get s key ≡ Some n → n.parent ≡ Some p
    → get s p.key ≡ Some m → IsNear cpu n.shares.value.cpus.effective (granted n.shares.value.cpus.requested m.shares.value.cpus.effective)
near_there cpu s key n p m near at of there =
    subst (λ (o : Option Cgroup). IsNear cpu n.shares.value.cpus.effective (granted n.shares.value.cpus.requested (effective_kept Cpus o))) there (near n p at of)

module _ (cpu : ℕ) (mid : Slab Cgroup) (top : Ids) (written : ℕ) (keys : List ℕ) (was : WasGranted cpu mid top) where
  -- what is kept of each group is near what was
  abbrev pub AllNear : Slab Cgroup → Type 0
  AllNear cur = (key : ℕ) → IsNear cpu (kept_at mid key) (kept_at cur key)

  module _ (cur : Slab Cgroup) (place i : ℕ) (next : place ≡ i + 1) (within : i < length keys) (so_far : IsRefreshing Cpus mid cur top written keys place)
      (near : AllNear cur) where
    -- the group that is next is as it was
    as_before : get cur (get_or keys i 0) ≡ get mid (get_or keys i 0)
    as_before =
        let split : drop i keys ≡ get_or keys i 0 ∷ drop place keys = drop_more keys i 0 within ∙ ap (λ (n : ℕ). get_or keys i 0 ∷ drop n keys) (sym next) in
        let rest : IsOrder cur (get_or keys i 0 ∷ drop place keys) = subst (λ (l : List ℕ). IsOrder cur l) split (IsOrder-drop cur i keys so_far.order) in
        here (get_or keys i 0) rest.0 rest.1
      where
        here : (key bound : ℕ) → IsInOrder cur bound (key ∷ drop place keys) → get cur key ≡ get mid key
        here key bound (m, at, knows, below, parent, rest) =
            so_far.ahead key (key_is_absent cur m.group.serial (drop place keys) rest key m at (omega arith))

    -- what it has is near what it is to have
    pub near_next : IsNearAt cpu cur (get_or keys i 0)
    near_next n p at of =
        subst (λ (ids : Ids). IsNear cpu ids (granted n.shares.value.cpus.requested (kept_at cur p.key)))
        (sym (was.granted (get_or keys i 0) n (sym as_before ∙ at)
        ∙ ap (λ (o : Option Group). standing o n.shares.value.cpus.requested was.was (λ q. kept_at mid q.key)) of))
        (near_granted cpu n.shares.value.cpus.requested (kept_at mid p.key) (kept_at cur p.key) (near p.key))

    near_due : (n : Cgroup) → get cur (get_or keys i 0) ≡ Some n → IsNear cpu n.shares.value.cpus.effective (stands Cpus cur top n)
    near_due n at = by n.parent refl
      where
        by : (o : Option Group) → n.parent ≡ o → IsNear cpu n.shares.value.cpus.effective (stands Cpus cur top n)
        by (Some p) of =
            subst (λ (o : Option Group). IsNear cpu n.shares.value.cpus.effective (standing o n.shares.value.cpus.requested top (λ q. kept_at cur q.key))) (sym of)
            (near_next n p at of)
        by None of =
            subst (λ (o : Option Group). IsNear cpu n.shares.value.cpus.effective (standing o n.shares.value.cpus.requested top (λ q. kept_at cur q.key))) (sym of)
            (subst (λ (ids : Ids). IsNear cpu ids top)
            (sym (was.granted (get_or keys i 0) n (sym as_before ∙ at)
            ∙ ap (λ (o : Option Group). standing o n.shares.value.cpus.requested was.was (λ q. kept_at mid q.key)) of))
            (inl was.agree))

    -- and so it stays, once it is brought up to date
    module _ (new : Slab Cgroup) (change : ChangesAt cur new (get_or keys i 0) (passed Cpus cur top written)) where
      near_passed : (o : Option Cgroup) → get cur (get_or keys i 0) ≡ o → IsNear cpu (kept_at mid (get_or keys i 0)) (kept_at new (get_or keys i 0))
      near_passed None at =
          subst (λ (o : Option Cgroup). IsNear cpu (kept_at mid (get_or keys i 0)) (effective_kept Cpus o))
          (at ∙ sym (change.changed ∙ ap (option_map (passed Cpus cur top written)) at)) (near (get_or keys i 0))
      near_passed (Some n) at =
          subst (λ (o : Option Cgroup). IsNear cpu (effective_kept Cpus o) (kept_at new (get_or keys i 0))) (sym at ∙ as_before)
          (subst (λ (o : Option Cgroup). IsNear cpu n.shares.value.cpus.effective (effective_kept Cpus o))
          (sym (change.changed ∙ ap (option_map (passed Cpus cur top written)) at)) (by (may_change written n) refl))
        where
          by : (b : Bool) → may_change written n ≡ b → IsNear cpu n.shares.value.cpus.effective (effective_kept Cpus (Some (passed Cpus cur top written n)))
          by true e =
              subst (λ (x : Cgroup). IsNear cpu n.shares.value.cpus.effective x.shares.value.cpus.effective) (sym (passed_changed Cpus cur top written n e))
              (near_due n at)
          by false e =
              subst (λ (x : Cgroup). IsNear cpu n.shares.value.cpus.effective x.shares.value.cpus.effective) (sym (passed_kept Cpus cur top written n e))
              (inl (λ q ne. refl))

      pub near_more : AllNear new
      near_more key = ⊎_elim
          (λ e. subst (λ (k : ℕ). IsNear cpu (kept_at mid k) (kept_at new k)) (sym e) (near_passed (get cur (get_or keys i 0)) refl))
          (λ ne. subst (λ (o : Option Cgroup). IsNear cpu (kept_at mid key) (effective_kept Cpus o)) (sym (change.others key ne)) (near key))
          (cases_eq key (get_or keys i 0))

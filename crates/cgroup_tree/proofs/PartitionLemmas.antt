-- That the groups outside a partition root have none of its CPUs, proved.
use Rattle.std.proofs.Common.{◌≡◌, ℕ, true, false, List, [], ◌∷◌, refl, sym, ◌∙◌}
use Rattle.std.proofs.lemmas.Bool.{and_parts}
use Rattle.std.specs.FinSet as set
use Rattle.std.specs.Prelude.{Option, Some, None, cond}
use Rattle.cpu_set.specs.Ids.{Ids, is_empty}
use Rattle.cpu_set.specs.PointwiseLaws.{contains-intersection}
use Rattle.cpuset_tree.specs.declared.Group.{Group}
use Rattle.cpuset_tree.specs.TreeState.{GroupEntry}
use Rattle.cpuset_tree.specs.Groups.{same_group}
use Rattle.cpuset_tree.specs.Effective.{granted, standing, effective, effective_cpus}
use Rattle.cgroup_tree.specs.Partitions.{StayBelowRoot, PartitionIsOwn}

-- what is granted of a set is in it
granted_below : (requested above : Ids) (cpu : ℕ) → set.contains (granted requested above) cpu ≡ true → set.contains above cpu ≡ true
granted_below requested above cpu =
    elim (is_empty (set.intersection requested above)) as (λ t. set.contains (cond t above (set.intersection requested above)) cpu ≡ true → set.contains above cpu ≡ true) [
      | true ↦ λ h. h
      | false ↦ λ h. (and_parts (set.contains requested cpu) (set.contains above cpu) (sym (contains-intersection requested above cpu) ∙ h)).1
    ]

-- what is in effect is in what the root has
below_root : (requested : GroupEntry → Ids) (top : Ids) (groups : List GroupEntry) (g : Group) (cpu : ℕ)
    → set.contains (effective requested top groups g) cpu ≡ true → set.contains top cpu ≡ true
below_root requested top [] g cpu = λ h. h
below_root requested top (e ∷ older) g cpu =
    elim (same_group e.group g) as (λ t. set.contains (cond t (standing e.parent (requested e) top (effective requested top older)) (effective requested top older g)) cpu ≡ true → set.contains top cpu ≡ true) [
      | true ↦ stood (λ p. below_root requested top older p cpu) e.parent
      | false ↦ below_root requested top older g cpu
    ]
  where
    stood : ((p : Group) → set.contains (effective requested top older p) cpu ≡ true → set.contains top cpu ≡ true) → (o : Option Group)
        → set.contains (standing o (requested e) top (effective requested top older)) cpu ≡ true → set.contains top cpu ≡ true
    stood above None h = h
    stood above (Some p) h = above p (granted_below (requested e) (effective requested top older p) cpu h)

pub stay_below_root : StayBelowRoot
stay_below_root s g cpu = below_root (λ e. e.cpus) s.online s.groups g cpu

pub partition_is_own : PartitionIsOwn
partition_is_own partition rest apart g other cpu has =
    elim (set.contains (effective_cpus rest other) cpu) as (λ t. set.contains (effective_cpus rest other) cpu ≡ t → t ≡ false) [
      | true ↦ λ is. sym (stay_below_root rest other cpu is) ∙ apart cpu (stay_below_root partition g cpu has)
      | false ↦ λ _. refl
    ] refl

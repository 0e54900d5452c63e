-- What holds of each well-formed list of groups.
use Rattle.std.proofs.Common.{◌≡◌, ℕ, ◌<◌, true, false, List, [], ◌∷◌, refl, sym, ap, ◌∙◌, subst, arith}
use Rattle.std.proofs.lemmas.Bool.{both_ways}
use Rattle.std.proofs.lemmas.Option.{same_Some, none-some}
use Rattle.std.specs.Prelude.{Option, Some, is_some}
use Rattle.cpu_set.specs.Ids.{Ids}
use Rattle.cpuset_tree.specs.declared.groups.Group.{Group}
use Rattle.cpuset_tree.specs.TreeState.{GroupEntry, TreeState}
use Rattle.cpuset_tree.specs.Groups.{same_group, entry_among}
use Rattle.cpuset_tree.specs.Effective.{standing, effective}
use Rattle.cpuset_tree.specs.TreeWellFormed.{ParentIsAmong, IsFalling}
use Rattle.cpuset_tree.specs.TreeLaws.{RunsUpThePath}
use Rattle.cpuset_tree.specs.GroupLemmas.{same_group-serial, other_serial, entry_among-here, entry_among-there, effective-here, effective-there, standing_alike}

-- a group that is there has a serial below the next
pub serial_below : (next : ℕ) (groups : List GroupEntry) → IsFalling next groups → (p : Group) → is_some (entry_among groups p) ≡ true → p.serial < next
serial_below next [] _ p there = absurd (both_ways false refl there)
serial_below next (e ∷ older) (below, parent, rest) p there =
    elim (same_group e.group p) as (λ t. same_group e.group p ≡ t → p.serial < next) [
      | true ↦ λ is. let same : e.group.serial ≡ p.serial = same_group-serial e.group p is in omega arith
      | false ↦ λ is.
          let lower : p.serial < e.group.serial = serial_below e.group.serial older rest p (ap is_some (sym (entry_among-there e older p is)) ∙ there) in
          omega arith
    ] refl

-- and so has its parent
pub parent_below : (next : ℕ) (groups : List GroupEntry) → IsFalling next groups → (g : Group) (e : GroupEntry) → entry_among groups g ≡ Some e
    → (p : Group) → e.parent ≡ Some p → p.serial < next
parent_below next [] _ g e at p of = absurd (none-some e at)
parent_below next (h ∷ older) (below, parent, rest) g e at p of =
    elim (same_group h.group g) as (λ t. same_group h.group g ≡ t → p.serial < next) [
      | true ↦ λ is.
          let one : h ≡ e = same_Some h e (sym (entry_among-here h older g is) ∙ at) in
          let lower : p.serial < h.group.serial =
          serial_below h.group.serial older rest p (subst (λ (o : Option Group). ParentIsAmong o older) (ap (λ (x : GroupEntry). x.parent) one ∙ of) parent) in
          omega arith
      | false ↦ λ is.
          let lower : p.serial < h.group.serial = parent_below h.group.serial older rest g e (sym (entry_among-there h older g is) ∙ at) p of in
          omega arith
    ] refl

-- what is in effect is the recursion up the path
pub effective-up : (requested : GroupEntry → Ids) (top : Ids) (next : ℕ) (groups : List GroupEntry) → IsFalling next groups
    → (g : Group) (e : GroupEntry) → entry_among groups g ≡ Some e
    → effective requested top groups g ≡ standing e.parent (requested e) top (effective requested top groups)
effective-up requested top next [] _ g e at = absurd (none-some e at)
effective-up requested top next (h ∷ older) (below, parent, rest) g e at =
    elim (same_group h.group g) as (λ t. same_group h.group g ≡ t → effective requested top (h ∷ older) g ≡ standing e.parent (requested e) top (effective requested top (h ∷ older))) [
      | true ↦ λ is.
          let one : h ≡ e = same_Some h e (sym (entry_among-here h older g is) ∙ at) in
          effective-here requested top h older g is
          ∙ ap (λ (x : GroupEntry). standing x.parent (requested x) top (effective requested top older)) one
          ∙ standing_alike requested top e.parent (requested e) (effective requested top older) (effective requested top (h ∷ older))
          (λ p of. sym (effective-there requested top h older p (newer p (serial_below h.group.serial older rest p
          (subst (λ (o : Option Group). ParentIsAmong o older) (ap (λ (x : GroupEntry). x.parent) one ∙ of) parent)))))
      | false ↦ λ is.
          let at_older : entry_among older g ≡ Some e = sym (entry_among-there h older g is) ∙ at in
          effective-there requested top h older g is
          ∙ effective-up requested top h.group.serial older rest g e at_older
          ∙ standing_alike requested top e.parent (requested e) (effective requested top older) (effective requested top (h ∷ older))
          (λ p of. sym (effective-there requested top h older p (newer p (parent_below h.group.serial older rest g e at_older p of))))
    ] refl
  where
    newer : (p : Group) → p.serial < h.group.serial → same_group h.group p ≡ false
    newer p lower = other_serial h.group p (λ is. absurd (omega arith))

pub RunsUpThePath-well_formed : (s : TreeState) → IsFalling s.next_serial s.groups → RunsUpThePath s
RunsUpThePath-well_formed s falling = record {
  cpus = effective-up (λ e. e.cpus) s.online s.next_serial s.groups falling;
  mems = effective-up (λ e. e.mems) s.nodes s.next_serial s.groups falling;
}

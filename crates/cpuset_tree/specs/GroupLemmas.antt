-- Groups that are one or not, and look-ups among entries.
use Rattle.std.proofs.Common.{◌≡◌, true, false, not, List, [], ◌∷◌, refl, sym, ap, ◌∙◌, eq-eqb, eqb-true, filter}
use Rattle.std.proofs.lemmas.Bool.{and_parts, and_left, and_right, and_from, or_parts, ne_eqb, cond-true, cond-false, both_ways}
use Rattle.std.specs.Prelude.{Option, Some, None, ◌==◌}
use Rattle.cpu_set.specs.Ids.{Ids}
use Rattle.cpuset_tree.specs.declared.groups.Group.{Group}
use Rattle.cpuset_tree.specs.TreeState.{GroupEntry}
use Rattle.cpuset_tree.specs.Groups.{same_group, entry_among, is_parent, has_child_among}
use Rattle.cpuset_tree.specs.Effective.{granted, standing, effective}

pub same_group-key : (a b : Group) → same_group a b ≡ true → a.key ≡ b.key
same_group-key a b e = eqb-true a.key b.key (and_parts (a.key == b.key) (a.serial == b.serial) e).0

pub same_group-serial : (a b : Group) → same_group a b ≡ true → a.serial ≡ b.serial
same_group-serial a b e = eqb-true a.serial b.serial (and_parts (a.key == b.key) (a.serial == b.serial) e).1

pub same_group-equal : (a b : Group) → same_group a b ≡ true → a ≡ b
same_group-equal a b e = λ i. record { key = same_group-key a b e i; serial = same_group-serial a b e i }

pub same_group_itself : (a : Group) → same_group a a ≡ true
same_group_itself a = and_from (a.key == a.key) (a.serial == a.serial) (eq-eqb a.key a.key refl) (eq-eqb a.serial a.serial refl)

pub other_key : (a b : Group) → (a.key ≡ b.key → ⊥) → same_group a b ≡ false
other_key a b ne = and_left (a.key == b.key) (a.serial == b.serial) (ne_eqb a.key b.key ne)

pub other_serial : (a b : Group) → (a.serial ≡ b.serial → ⊥) → same_group a b ≡ false
other_serial a b ne = and_right (a.key == b.key) (a.serial == b.serial) (ne_eqb a.serial b.serial ne)

pub same_group_sym : (a b : Group) → same_group a b ≡ same_group b a
same_group_sym a b =
    elim (same_group a b) as (λ t. same_group a b ≡ t → same_group a b ≡ same_group b a) [
      | true ↦ λ e. e ∙ sym (ap (λ (g : Group). same_group b g) (same_group-equal a b e) ∙ same_group_itself b)
      | false ↦ λ e. e ∙ sym (elim (same_group b a) as (λ t. same_group b a ≡ t → t ≡ false) [
        | true ↦ λ h. absurd (both_ways (same_group a b) e (ap (λ (g : Group). same_group a g) (same_group-equal b a h) ∙ same_group_itself a))
        | false ↦ λ _. refl
      ] refl)
    ] refl

-- what is found at the head
pub entry_among-here : (e : GroupEntry) (older : List GroupEntry) (g : Group) → same_group e.group g ≡ true → entry_among (e ∷ older) g ≡ Some e
entry_among-here e older g h = cond-true (same_group e.group g) (Some e) (entry_among older g) h

pub entry_among-there : (e : GroupEntry) (older : List GroupEntry) (g : Group) → same_group e.group g ≡ false → entry_among (e ∷ older) g ≡ entry_among older g
entry_among-there e older g h = cond-false (same_group e.group g) (Some e) (entry_among older g) h

-- the entry of another group stays when one is removed
pub entry_among-without : (g : Group) (groups : List GroupEntry) (p : Group) → same_group g p ≡ false
    → entry_among (filter (λ e. not (same_group e.group g)) groups) p ≡ entry_among groups p
entry_among-without g [] p other = refl
entry_among-without g (e ∷ older) p other =
    elim (same_group e.group g) as (λ t. same_group e.group g ≡ t → entry_among (filter (λ e. not (same_group e.group g)) (e ∷ older)) p ≡ entry_among (e ∷ older) p) [
      | true ↦ λ is.
          ap (λ (l : List GroupEntry). entry_among l p) (cond-false (not (same_group e.group g)) (e ∷ filter (λ e. not (same_group e.group g)) older) (filter (λ e. not (same_group e.group g)) older) (ap not is))
          ∙ entry_among-without g older p other
          ∙ sym (entry_among-there e older p (ap (λ (h : Group). same_group h p) (same_group-equal e.group g is) ∙ other))
      | false ↦ λ is.
          ap (λ (l : List GroupEntry). entry_among l p) (cond-true (not (same_group e.group g)) (e ∷ filter (λ e. not (same_group e.group g)) older) (filter (λ e. not (same_group e.group g)) older) (ap not is))
          ∙ elim (same_group e.group p) as (λ t. same_group e.group p ≡ t → entry_among (e ∷ filter (λ e. not (same_group e.group g)) older) p ≡ entry_among (e ∷ older) p) [
            | true ↦ λ at. entry_among-here e (filter (λ e. not (same_group e.group g)) older) p at ∙ sym (entry_among-here e older p at)
            | false ↦ λ at.
                entry_among-there e (filter (λ e. not (same_group e.group g)) older) p at ∙ entry_among-without g older p other ∙ sym (entry_among-there e older p at)
          ] refl
    ] refl

-- a removed group is there no more
pub entry_among-removed : (g : Group) (groups : List GroupEntry) → entry_among (filter (λ e. not (same_group e.group g)) groups) g ≡ None
entry_among-removed g [] = refl
entry_among-removed g (e ∷ older) =
    elim (same_group e.group g) as (λ t. same_group e.group g ≡ t → entry_among (filter (λ e. not (same_group e.group g)) (e ∷ older)) g ≡ None) [
      | true ↦ λ is.
          ap (λ (l : List GroupEntry). entry_among l g) (cond-false (not (same_group e.group g)) (e ∷ filter (λ e. not (same_group e.group g)) older) (filter (λ e. not (same_group e.group g)) older) (ap not is))
          ∙ entry_among-removed g older
      | false ↦ λ is.
          ap (λ (l : List GroupEntry). entry_among l g) (cond-true (not (same_group e.group g)) (e ∷ filter (λ e. not (same_group e.group g)) older) (filter (λ e. not (same_group e.group g)) older) (ap not is))
          ∙ entry_among-there e (filter (λ e. not (same_group e.group g)) older) g is
          ∙ entry_among-removed g older
    ] refl

module _ (requested : GroupEntry → Ids) (top : Ids) where
  pub effective-here : (e : GroupEntry) (older : List GroupEntry) (g : Group) → same_group e.group g ≡ true
      → effective requested top (e ∷ older) g ≡ standing e.parent (requested e) top (effective requested top older)
  effective-here e older g h =
      cond-true (same_group e.group g) (standing e.parent (requested e) top (effective requested top older)) (effective requested top older g) h

  pub effective-there : (e : GroupEntry) (older : List GroupEntry) (g : Group) → same_group e.group g ≡ false
      → effective requested top (e ∷ older) g ≡ effective requested top older g
  effective-there e older g h =
      cond-false (same_group e.group g) (standing e.parent (requested e) top (effective requested top older)) (effective requested top older g) h

  -- two ways to tell what a parent has give the same where they agree on the parent
  pub standing_alike : (parent : Option Group) (asked : Ids) (f h : Group → Ids) → ((p : Group) → parent ≡ Some p → f p ≡ h p)
      → standing parent asked top f ≡ standing parent asked top h
  standing_alike None asked f h alike = refl
  standing_alike (Some p) asked f h alike = ap (granted asked) (alike p refl)

  -- a group without children has no part in what others have
  pub effective-without : (g : Group) (groups : List GroupEntry) → has_child_among groups g ≡ false → (p : Group) → same_group g p ≡ false
      → effective requested top (filter (λ e. not (same_group e.group g)) groups) p ≡ effective requested top groups p
  effective-without g [] none p other = refl
  effective-without g (e ∷ older) none p other =
      let parts : (is_parent e.parent g ≡ false) × (has_child_among older g ≡ false) = or_parts (is_parent e.parent g) (has_child_among older g) none in
      elim (same_group e.group g) as (λ t. same_group e.group g ≡ t → effective requested top (filter (λ e. not (same_group e.group g)) (e ∷ older)) p ≡ effective requested top (e ∷ older) p) [
        | true ↦ λ is.
            ap (λ (l : List GroupEntry). effective requested top l p) (cond-false (not (same_group e.group g)) (e ∷ filter (λ e. not (same_group e.group g)) older) (filter (λ e. not (same_group e.group g)) older) (ap not is))
            ∙ effective-without g older parts.1 p other
            ∙ sym (effective-there e older p (ap (λ (h : Group). same_group h p) (same_group-equal e.group g is) ∙ other))
        | false ↦ λ is.
            ap (λ (l : List GroupEntry). effective requested top l p) (cond-true (not (same_group e.group g)) (e ∷ filter (λ e. not (same_group e.group g)) older) (filter (λ e. not (same_group e.group g)) older) (ap not is))
            ∙ elim (same_group e.group p) as (λ t. same_group e.group p ≡ t → effective requested top (e ∷ filter (λ e. not (same_group e.group g)) older) p ≡ effective requested top (e ∷ older) p) [
              | true ↦ λ at.
                  effective-here e (filter (λ e. not (same_group e.group g)) older) p at
                  ∙ standing_alike e.parent (requested e) _ _ (λ q of. effective-without g older parts.1 q (same_group_sym g q ∙ ap (λ (o : Option Group). is_parent o g) (sym of) ∙ parts.0))
                  ∙ sym (effective-here e older p at)
              | false ↦ λ at.
                  effective-there e (filter (λ e. not (same_group e.group g)) older) p at
                  ∙ effective-without g older parts.1 p other
                  ∙ sym (effective-there e older p at)
            ] refl
      ] refl

-- What is granted of sets that one CPU tells apart.
use Rattle.std.proofs.Common.{◌≡◌, ℕ, Bool, true, false, not, ◌&&◌, ◌||◌, refl, sym, ap, ◌∙◌, subst, eq-eqb, eqb-true, inl, inr}
use Rattle.std.proofs.lemmas.Bool.{both_ways, cond-true, cond-false, and_left, and_right}
use Rattle.std.specs.Prelude.{◌⊎◌, ◌==◌}
use Rattle.std.specs.FinSet as set
use Rattle.cpu_set.specs.Ids.{Ids, is_empty}
use Rattle.cpu_set.specs.PointwiseLaws.{same_members, contains-insert, contains-remove, contains-intersection}
use Rattle.cpu_set.specs.SetLaws.{empty_of_none, none_of_empty}
use Rattle.cpuset_tree.specs.Effective.{granted}
use Rattle.cpuset_tree.specs.GrantedLemmas.{is_empty-empty}
use Rattle.cpuset_tree.specs.Near.{AgreeBut, HasOnly, IsNear, with_cpu}

abbrev in_set : Ids → ℕ → Bool
in_set s q = set.contains s q

-- what a set is granted of another: all of it, where they share nothing, or else what they share, which is some
granted_is : (asked above : Ids) → ((granted asked above ≡ above) × ((q : ℕ) → (in_set asked q && in_set above q) ≡ false))
    ⊎ ((granted asked above ≡ set.intersection asked above) × (is_empty (set.intersection asked above) ≡ false))
granted_is asked above = by (is_empty (set.intersection asked above)) refl
  where
    by : (b : Bool) → is_empty (set.intersection asked above) ≡ b → ((granted asked above ≡ above) × ((q : ℕ) → (in_set asked q && in_set above q) ≡ false))
        ⊎ ((granted asked above ≡ set.intersection asked above) × (is_empty (set.intersection asked above) ≡ false))
    by true e = inl (
      cond-true (is_empty (set.intersection asked above)) above (set.intersection asked above) e,
      λ q. sym (contains-intersection asked above q)
          ∙ none_of_empty (set.intersection asked above) (set.empty_of_len (set.intersection asked above) (eqb-true _ _ e)) q,
    )
    by false e = inr (cond-false (is_empty (set.intersection asked above)) above (set.intersection asked above) e, e)

-- a set of one number at most that is not empty has it
only_if_some : (s : Ids) (cpu : ℕ) → ((q : ℕ) → (q == cpu) ≡ false → in_set s q ≡ false) → is_empty s ≡ false → HasOnly cpu s
only_if_some s cpu none some q = by (q == cpu) refl
  where
    at_cpu : (b : Bool) → in_set s cpu ≡ b → in_set s cpu ≡ true
    at_cpu true e = e
    at_cpu false e = absurd (both_ways (is_empty s) some (ap is_empty (empty_of_none s (λ k _. all k (k == cpu) refl)) ∙ is_empty-empty))
      where
        all : (k : ℕ) (b : Bool) → (k == cpu) ≡ b → in_set s k ≡ false
        all k true is = ap (in_set s) (eqb-true k cpu is) ∙ e
        all k false is = none k is

    by : (b : Bool) → (q == cpu) ≡ b → in_set s q ≡ (q == cpu)
    by true is = ap (in_set s) (eqb-true q cpu is) ∙ at_cpu (in_set s cpu) refl ∙ sym is
    by false is = none q is ∙ sym is

-- of one number alone that number is granted
granted_only : (cpu : ℕ) (asked above : Ids) → HasOnly cpu above → HasOnly cpu (granted asked above)
granted_only cpu asked above only = by (granted_is asked above)
  where
    by : ((granted asked above ≡ above) × ((q : ℕ) → (in_set asked q && in_set above q) ≡ false))
        ⊎ ((granted asked above ≡ set.intersection asked above) × (is_empty (set.intersection asked above) ≡ false)) → HasOnly cpu (granted asked above)
    by (inl (is, none)) = subst (HasOnly cpu) (sym is) only
    by (inr (is, some)) = subst (HasOnly cpu) (sym is)
        (only_if_some (set.intersection asked above) cpu
        (λ q ne. contains-intersection asked above q ∙ and_right (in_set asked q) (in_set above q) (only q ∙ ne)) some)

-- what is granted of near sets is near
pub near_granted : (cpu : ℕ) (asked s t : Ids) → IsNear cpu s t → IsNear cpu (granted asked s) (granted asked t)
near_granted cpu asked s t (inr (inl only)) = inr (inl (granted_only cpu asked s only))
near_granted cpu asked s t (inr (inr only)) = inr (inr (granted_only cpu asked t only))
near_granted cpu asked s t (inl agree) = by (granted_is asked s) (granted_is asked t)
  where
    -- what is shared with the one, where nothing is with the other, is that number
    shared : (a b : Ids) → AgreeBut cpu a b → ((q : ℕ) → (in_set asked q && in_set a q) ≡ false) → granted asked b ≡ set.intersection asked b
        → is_empty (set.intersection asked b) ≡ false → HasOnly cpu (granted asked b)
    shared a b agree none is some = subst (HasOnly cpu) (sym is)
        (only_if_some (set.intersection asked b) cpu
        (λ q ne. contains-intersection asked b q ∙ ap (λ x. in_set asked q && x) (sym (agree q ne)) ∙ none q) some)

    by : ((granted asked s ≡ s) × ((q : ℕ) → (in_set asked q && in_set s q) ≡ false))
        ⊎ ((granted asked s ≡ set.intersection asked s) × (is_empty (set.intersection asked s) ≡ false))
        → ((granted asked t ≡ t) × ((q : ℕ) → (in_set asked q && in_set t q) ≡ false))
        ⊎ ((granted asked t ≡ set.intersection asked t) × (is_empty (set.intersection asked t) ≡ false))
        → IsNear cpu (granted asked s) (granted asked t)
    by (inl (is, none)) (inl (too, nothing)) = inl (λ q ne. ap (λ x. in_set x q) is ∙ agree q ne ∙ sym (ap (λ x. in_set x q) too))
    by (inl (is, none)) (inr (too, some)) = inr (inr (shared s t agree none too some))
    by (inr (is, some)) (inl (too, none)) = inr (inl (shared t s (λ q ne. sym (agree q ne)) none is some))
    by (inr (is, some)) (inr (too, more)) = inl (λ q ne.
        ap (λ x. in_set x q) is ∙ contains-intersection asked s q ∙ ap (λ x. in_set asked q && x) (agree q ne)
        ∙ sym (ap (λ x. in_set x q) too ∙ contains-intersection asked t q))

-- a set that agrees with another but on one number is that one, with the number or without it
pub with_cpu_is : (cpu : ℕ) (has : Bool) (s t : Ids) → AgreeBut cpu s t → in_set t cpu ≡ has → t ≡ with_cpu cpu has s
with_cpu_is cpu true s t agree at = same_members t (set.insert s cpu) (λ q. by q (q == cpu) refl ∙ sym (contains-insert s cpu q))
  where
    by : (q : ℕ) (b : Bool) → (q == cpu) ≡ b → in_set t q ≡ ((q == cpu) || in_set s q)
    by q true is = ap (in_set t) (eqb-true q cpu is) ∙ at ∙ sym (ap (λ x. x || in_set s q) is)
    by q false is = sym (agree q is) ∙ sym (ap (λ x. x || in_set s q) is)
with_cpu_is cpu false s t agree at = same_members t (set.remove s cpu) (λ q. by q (q == cpu) refl ∙ sym (contains-remove s cpu q))
  where
    by : (q : ℕ) (b : Bool) → (q == cpu) ≡ b → in_set t q ≡ (not (q == cpu) && in_set s q)
    by q true is = ap (in_set t) (eqb-true q cpu is) ∙ at ∙ sym (ap (λ x. not x && in_set s q) is)
    by q false is = sym (agree q is) ∙ sym (ap (λ x. not x && in_set s q) is)

-- sets that are the same without a number agree but on it
pub agree_without : (cpu : ℕ) (s t : Ids) → set.remove s cpu ≡ set.remove t cpu → AgreeBut cpu s t
agree_without cpu s t same q ne = without s ∙ ap (λ x. in_set x q) same ∙ sym (without t)
  where
    without : (x : Ids) → in_set x q ≡ in_set (set.remove x cpu) q
    without x = sym (contains-remove x cpu q ∙ ap (λ b. not b && in_set x q) ne)

-- another number of what the parent has tells what is granted of it, and so whether the CPU is to be had
module _ (cpu other : ℕ) (has asked above : Ids) (apart : (other == cpu) ≡ false) (there : in_set above other ≡ true)
    (near : IsNear cpu has (granted asked above)) where
  abbrev Due : Bool → Type 0
  Due b = granted asked above ≡ with_cpu cpu b has

  self : (cpu == cpu) ≡ true
  self = eq-eqb cpu cpu refl

  -- one that has the other number has not the CPU alone, nor has one that has not the CPU
  not_only : (s : Ids) → in_set s other ≡ true → HasOnly cpu s → ⊥
  not_only s at only = both_ways (in_set s other) (only other ∙ apart) at

  not_without : (s : Ids) → in_set s cpu ≡ false → HasOnly cpu s → ⊥
  not_without s at only = both_ways (in_set s cpu) at (only cpu ∙ self)

  agreed : (HasOnly cpu has → ⊥) → (HasOnly cpu (granted asked above) → ⊥) → AgreeBut cpu has (granted asked above)
  agreed one_lacks other_lacks = by near
    where
      by : IsNear cpu has (granted asked above) → AgreeBut cpu has (granted asked above)
      by (inl agree) = agree
      by (inr (inl only)) = absurd (one_lacks only)
      by (inr (inr only)) = absurd (other_lacks only)

  -- what is had and asked for is shared
  pub due_where_shared : in_set has other ≡ true → in_set asked other ≡ true → Due (in_set asked cpu && in_set above cpu)
  due_where_shared had wanted = by (granted_is asked above)
    where
      both : (in_set asked other && in_set above other) ≡ true
      both = ap (λ b. b && in_set above other) wanted ∙ there

      by : ((granted asked above ≡ above) × ((q : ℕ) → (in_set asked q && in_set above q) ≡ false))
          ⊎ ((granted asked above ≡ set.intersection asked above) × (is_empty (set.intersection asked above) ≡ false)) → Due (in_set asked cpu && in_set above cpu)
      by (inl (is, none)) = absurd (both_ways (in_set asked other && in_set above other) (none other) both)
      by (inr (is, some)) =
          with_cpu_is cpu (in_set asked cpu && in_set above cpu) has (granted asked above)
          (agreed (not_only has had) (not_only (granted asked above) (ap (λ x. in_set x other) is ∙ contains-intersection asked above other ∙ both)))
          (ap (λ x. in_set x cpu) is ∙ contains-intersection asked above cpu)

  -- what is had and not asked for comes of all that the parent has
  pub due_where_all : in_set has other ≡ true → in_set asked other ≡ false → (in_set asked cpu && in_set above cpu) ≡ false → Due (in_set above cpu)
  due_where_all had unasked unshared = by (granted_is asked above)
    where
      by : ((granted asked above ≡ above) × ((q : ℕ) → (in_set asked q && in_set above q) ≡ false))
          ⊎ ((granted asked above ≡ set.intersection asked above) × (is_empty (set.intersection asked above) ≡ false)) → Due (in_set above cpu)
      by (inl (is, none)) =
          with_cpu_is cpu (in_set above cpu) has (granted asked above)
          (agreed (not_only has had) (not_only (granted asked above) (ap (λ x. in_set x other) is ∙ there)))
          (ap (λ x. in_set x cpu) is)
      by (inr (is, some)) =
          let at : (q : ℕ) → in_set (granted asked above) q ≡ (in_set asked q && in_set above q) = λ q. ap (λ x. in_set x q) is ∙ contains-intersection asked above q in
          absurd (both_ways (in_set has other)
          (agreed (not_only has had) (not_without (granted asked above) (at cpu ∙ unshared)) other apart ∙ at other ∙ and_left (in_set asked other) (in_set above other) unasked)
          had)

  -- what is neither had nor asked for shows that something else is shared
  pub due_where_neither : in_set has other ≡ false → in_set asked other ≡ false → (in_set asked cpu && in_set above cpu) ≡ false → in_set has cpu ≡ false → Due false
  due_where_neither lacked unasked unshared without = by (granted_is asked above)
    where
      by : ((granted asked above ≡ above) × ((q : ℕ) → (in_set asked q && in_set above q) ≡ false))
          ⊎ ((granted asked above ≡ set.intersection asked above) × (is_empty (set.intersection asked above) ≡ false)) → Due false
      by (inl (is, none)) =
          let at : in_set (granted asked above) other ≡ true = ap (λ x. in_set x other) is ∙ there in
          absurd (both_ways (in_set has other) lacked (agreed (not_without has without) (not_only (granted asked above) at) other apart ∙ at))
      by (inr (is, some)) =
          let at : in_set (granted asked above) cpu ≡ false = ap (λ x. in_set x cpu) is ∙ contains-intersection asked above cpu ∙ unshared in
          with_cpu_is cpu false has (granted asked above) (agreed (not_without has without) (not_without (granted asked above) at)) at

-- What is kept of a set on the way to a target.
use Rattle.std.proofs.Common.{◌≡◌, ℕ, Bool, true, false, not, ◌&&◌, ◌||◌, refl, sym, ap, ◌∙◌}
use Rattle.std.proofs.lemmas.Bool.{cond-true, cond-false, false≢true}
use Rattle.std.specs.FinSet as set
use Rattle.cpu_set.specs.Ids.{Ids, is_empty}
use Rattle.cpu_set.specs.PointwiseLaws.{same_members, contains-union, contains-intersection, contains-difference, is_subset-contains}
use Rattle.apply_plan.specs.Kept.{within, kept}

module _ (reserved target cpus : Ids) where
  pub kept_nothing : is_empty (within reserved target cpus) ≡ true → kept reserved target cpus ≡ reserved
  kept_nothing e = cond-true (is_empty (within reserved target cpus)) reserved (within reserved target cpus) e

  pub kept_some : is_empty (within reserved target cpus) ≡ false → kept reserved target cpus ≡ within reserved target cpus
  kept_some e = cond-false (is_empty (within reserved target cpus)) reserved (within reserved target cpus) e

  -- it is not empty, where the reserved CPUs are not
  pub kept_is_some : is_empty reserved ≡ false → is_empty (kept reserved target cpus) ≡ false
  kept_is_some r = split (is_empty (within reserved target cpus)) refl where
    split : (b : Bool) → is_empty (within reserved target cpus) ≡ b → is_empty (kept reserved target cpus) ≡ false
    split true e = ap is_empty (kept_nothing e) ∙ r
    split false e = ap is_empty (kept_some e) ∙ e

  -- a CPU of it that is not reserved was there before, and is in the target
  pub kept_within : (cpu : ℕ) → set.contains (kept reserved target cpus) cpu ≡ true → set.contains reserved cpu ≡ false
      → (set.contains cpus cpu ≡ true) × (set.contains target cpu ≡ true)
  kept_within cpu member r = split (is_empty (within reserved target cpus)) refl where
    parts : (c t u : Bool) → u ≡ false → (c && (t || u)) ≡ true → (c ≡ true) × (t ≡ true)
    parts true true u e m = (refl, refl)
    parts true false u e m = (refl, absurd (false≢true (sym e ∙ m)))
    parts false t u e m = absurd (false≢true m)

    split : (b : Bool) → is_empty (within reserved target cpus) ≡ b → (set.contains cpus cpu ≡ true) × (set.contains target cpu ≡ true)
    split true e = absurd (false≢true (sym r ∙ sym (ap (λ s. set.contains s cpu) (kept_nothing e)) ∙ member))
    split false e =
        parts _ _ _ r (ap (λ b. set.contains cpus cpu && b) (sym (contains-union target reserved cpu))
        ∙ sym (contains-intersection cpus (set.union target reserved) cpu)
        ∙ sym (ap (λ s. set.contains s cpu) (kept_some e)) ∙ member)

module _ (reserved target : Ids) where
  bools_again : (c t r : Bool) → ((c && (t || r)) && (t || r)) ≡ (c && (t || r))
  bools_again true true r = refl
  bools_again true false true = refl
  bools_again true false false = refl
  bools_again false t r = refl

  bools_target : (t r : Bool) → (t && (t || r)) ≡ t
  bools_target true r = refl
  bools_target false r = refl

  bools_reserved : (t r : Bool) → (r && (t || r)) ≡ r
  bools_reserved true true = refl
  bools_reserved false true = refl
  bools_reserved t false = refl

  in_within : (cpus : Ids) (q : ℕ) → set.contains (within reserved target cpus) q ≡ (set.contains cpus q && (set.contains target q || set.contains reserved q))
  in_within cpus q =
      contains-intersection cpus (set.union target reserved) q ∙ ap (λ b. set.contains cpus q && b) (contains-union target reserved q)

  within_again : (cpus : Ids) → within reserved target (within reserved target cpus) ≡ within reserved target cpus
  within_again cpus =
      same_members _ _ (λ q. in_within (within reserved target cpus) q
      ∙ ap (λ b. b && (set.contains target q || set.contains reserved q)) (in_within cpus q)
      ∙ bools_again (set.contains cpus q) (set.contains target q) (set.contains reserved q)
      ∙ sym (in_within cpus q))

  within_target : within reserved target target ≡ target
  within_target = same_members _ _ (λ q. in_within target q ∙ bools_target (set.contains target q) (set.contains reserved q))

  within_reserved : within reserved target reserved ≡ reserved
  within_reserved = same_members _ _ (λ q. in_within reserved q ∙ bools_reserved (set.contains target q) (set.contains reserved q))

  -- of what is the whole of its part, all is kept
  kept_whole : (cpus : Ids) → within reserved target cpus ≡ cpus → is_empty cpus ≡ false → kept reserved target cpus ≡ cpus
  kept_whole cpus whole some = kept_some reserved target cpus (ap is_empty whole ∙ some) ∙ whole

  bools_all : (c t r : Bool) → ((c && not t) ≡ true → r ≡ true) → (c && (t || r)) ≡ c
  bools_all true true r f = refl
  bools_all true false r f = f refl
  bools_all false t r f = refl

  -- of some CPUs that are each in the target or reserved, all are kept
  pub kept_all : (cpus : Ids) → set.is_subset (set.difference cpus target) reserved ≡ true → is_empty cpus ≡ false → kept reserved target cpus ≡ cpus
  kept_all cpus sub some =
      kept_whole cpus
      (same_members _ _ (λ q. in_within cpus q
      ∙ bools_all (set.contains cpus q) (set.contains target q) (set.contains reserved q)
      (λ left. is_subset-contains (set.difference cpus target) reserved sub q (contains-difference cpus target q ∙ left))))
      some

  bools_part : (c t r : Bool) → (c ≡ true → t ≡ true) → (c && (t || r)) ≡ c
  bools_part true t r f = ap (λ b. b || r) (f refl)
  bools_part false t r f = refl

  -- and of some that are each in the target
  pub kept_part : (cpus : Ids) → set.is_subset cpus target ≡ true → is_empty cpus ≡ false → kept reserved target cpus ≡ cpus
  kept_part cpus sub some =
      kept_whole cpus
      (same_members _ _ (λ q. in_within cpus q
      ∙ bools_part (set.contains cpus q) (set.contains target q) (set.contains reserved q) (is_subset-contains cpus target sub q)))
      some

  -- the reserved ones are kept
  pub kept_reserved : kept reserved target reserved ≡ reserved
  kept_reserved = split (is_empty (within reserved target reserved)) refl where
    split : (b : Bool) → is_empty (within reserved target reserved) ≡ b → kept reserved target reserved ≡ reserved
    split true e = kept_nothing reserved target reserved e
    split false e = kept_some reserved target reserved e ∙ within_reserved

  -- the target is kept
  pub kept_target : is_empty target ≡ false → kept reserved target target ≡ target
  kept_target some = kept_whole target within_target some

  -- what was kept is kept
  pub kept_again : is_empty reserved ≡ false → (cpus : Ids) → kept reserved target (kept reserved target cpus) ≡ kept reserved target cpus
  kept_again some cpus = split (is_empty (within reserved target cpus)) refl where
    split : (b : Bool) → is_empty (within reserved target cpus) ≡ b → kept reserved target (kept reserved target cpus) ≡ kept reserved target cpus
    split true e =
        ap (kept reserved target) (kept_nothing reserved target cpus e) ∙ kept_whole reserved within_reserved some ∙ sym (kept_nothing reserved target cpus e)
    split false e =
        ap (kept reserved target) (kept_some reserved target cpus e)
        ∙ kept_whole (within reserved target cpus) (within_again cpus) e
        ∙ sym (kept_some reserved target cpus e)

use Rattle.std.proofs.Common.{ap, sym, ℕ, ◌&&◌, ◌∙◌, ◌≡◌}
use Rattle.std.proofs.lemmas.Bool.{and_from, and_parts, eq-eqb, eqb-true, false≢true}
use Rattle.std.proofs.lemmas.Slice.Eq.{slice_eq-Decides}
use Rattle.std.specs.Bool.{Decides}
use Rattle.std.specs.Prelude.{◌==◌}
use Rattle.tagged_sets.proofs.Kept.{kept_once}
use Rattle.tagged_sets.specs.Tagged.{tagged}
use Rattle.tagged_sets.proofs.tagged_sets.TaggedSets.is_same.Goals as goal

pair-Decides : (x y : ℕ × ℕ) → Decides ((x.0 == y.0) && (x.1 == y.1)) (x ≡ y)
pair-Decides x y = (
  λ e. both (eqb-true x.0 y.0 (and_parts _ _ e).0) (eqb-true x.1 y.1 (and_parts _ _ e).1),
  λ e. and_from _ _ (eq-eqb x.0 y.0 (ap (λ (p : ℕ × ℕ). p.0) e)) (eq-eqb x.1 y.1 (ap (λ (p : ℕ × ℕ). p.1) e)),
)
  where
    both : x.0 ≡ y.0 → x.1 ≡ y.1 → x ≡ y
    both p q = λ i. (p i, q i)

pub returns-then-eq : goal.returns-then-eq
returns-then-eq g c =
    let ranges : c.self.inside.ranges.items ≡ c.other.inside.ranges.items =
    sym c.as_slice.ensures.value ∙ (slice_eq-Decides pair-Decides _ _ _ c.eq.ensures).0 c.if-eq.true ∙ c.as_slice-2.ensures.value in (
      λ t. sym c.self.view_is
          ∙ ap (λ rs. tagged rs 0 c.self.inside.heads.items) ranges
          ∙ ap (tagged c.other.inside.ranges.items 0) (sym c.as_slice-then-eq.ensures.value ∙ c.are_same.ensures.0 t ∙ c.as_slice-then-eq-2.ensures.value)
          ∙ c.other.view_is,
      λ e. c.are_same.ensures.1
          (c.as_slice-then-eq.ensures.value
          ∙ (kept_once c.self.inside.ranges.items c.other.inside.ranges.items 0 _ _ c.self.invariant.0 c.other.invariant.0 (c.self.view_is ∙ e ∙ sym c.other.view_is)).0
          ∙ sym c.as_slice-then-eq-2.ensures.value),
    )

pub returns-else-eq : goal.returns-else-eq
returns-else-eq g c = (
  λ t. absurd (false≢true (sym c.if-eq.false ∙ t)),
  λ e. (slice_eq-Decides pair-Decides _ _ _ c.eq.ensures).1
      (c.as_slice.ensures.value
      ∙ (kept_once c.self.inside.ranges.items c.other.inside.ranges.items 0 c.self.inside.heads.items c.other.inside.heads.items c.self.invariant.0 c.other.invariant.0 (c.self.view_is ∙ e ∙ sym c.other.view_is)).1
      ∙ sym c.as_slice-2.ensures.value),
)

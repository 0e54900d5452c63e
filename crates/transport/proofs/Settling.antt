-- After an augmentation all is settled again.
use Rattle.std.proofs.Common.{◌≡◌, ℕ, ◌-◌, ◌<◌, ◌≤◌, length, Option, ap, ◌∙◌, inl, inr, arith}
use Rattle.std.proofs.lemmas.List.{length-set, get_or-set_same, get_or-set_other}
use Rattle.std.proofs.lemmas.Bool.{cases_eq}
use Rattle.transport.specs.Numbers.{number}
use Rattle.transport.specs.Answers.{IsFound}
use Rattle.transport.specs.Augmented.{IsAugmented}
use Rattle.transport.specs.Settled.{IsSettled}
use Rattle.transport.specs.declared.labels.FreeEnd.{FreeEnd}
use Rattle.transport.specs.declared.assignment.Assignment.{Assignment}
use Rattle.transport.specs.declared.tree.SearchTree.{SearchTree}
use Rattle.transport.proofs.Starting.{found_values_low, found_prices_low}

module _ (ws : ℕ → ℕ → Option ℕ) (old new : Assignment) (t : SearchTree) (e : FreeEnd) (amount : ℕ) (h : IsFound ws old t e) (p : IsAugmented old new t e amount) where
  free_in : e.class < length old.residual.items
  free_in =
      let x = h.running.search.free_end e h.its in
      omega (arith, h.running.fit.class e.label.row e.class e.label.weight x.weighs, h.running.search.residual_long)

  free_less : (g : ℕ) → number new.residual.items g ≤ number old.residual.items g
  free_less g = elim (cases_eq g e.class) [
    | inl same ↦ (let f : number new.residual.items g ≡ number old.residual.items e.class - amount = rw (p.residual, same) (get_or-set_same old.residual.items e.class _ 0 free_in) in
        omega (arith, f, ap (λ k. number old.residual.items k) same))
    | inr ne ↦ (let f : number new.residual.items g ≡ number old.residual.items g = rw p.residual (get_or-set_other old.residual.items e.class g _ 0 ne) in omega (arith, f))
  ]

  pub settled_augmented : IsSettled ws new
  settled_augmented = record {
    fit = rw (p.values, p.prices) h.running.fit;
    dual = record {
      below = rw (p.values, p.prices) h.running.search.dual.below;
      tight = rw (p.values, p.prices) (p.tight ws h);
      zero = λ g some. rw p.prices (h.running.search.dual.zero g (omega (arith, some, free_less g)));
    };
    residual_long = rw p.prices (ap length p.residual ∙ length-set _ _ _ ∙ h.running.search.residual_long);
    values_low = rw p.values (found_values_low ws old t e h);
    prices_low = rw p.prices (found_prices_low ws old t e h);
    holdings = rw (p.values, p.prices) p.holdings;
  }

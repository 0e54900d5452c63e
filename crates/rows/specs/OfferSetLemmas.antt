-- The CPUs of one weight.
use Rattle.std.proofs.Common.{◌≡◌, ℕ, zero, suc, Bool, true, ◌&&◌, ◌==◌, nat_lt, refl, sym, ap, ◌∙◌, arith}
use Rattle.std.proofs.lemmas.Bool.{true≢false}
use Rattle.std.proofs.lemmas.Bool.Decides.{nat_tests}
use Rattle.std.specs.FinSet as set
use Rattle.cpu_set.specs.Ids.{Ids}
use Rattle.cpu_set.specs.PointwiseLaws.{contains-empty}
use Rattle.machine.specs.Layout.{Layout}
use Rattle.machine.specs.Weight.{weight}
use Rattle.rows.specs.Offers.{of_weight, offer_at, has_some}

tied : (p : ℕ → Bool) (q x : ℕ) → q ≡ x → p x ≡ p q
tied p q x same = ap p (sym same)

module _ (m : Layout) (homes cpus : Ids) where
  abbrev w : ℕ → ℕ
  w c = weight m homes c

  pub contains-of_weight : (n c : ℕ) → set.contains (of_weight m homes cpus n) c ≡ (set.contains cpus c && (w c == n))
  contains-of_weight n c = set.contains-retain cpus (λ q. w q == n) c (λ x equal. tied (λ q. w q == n) c x (set.nat_cmp-IsAntisymmetric c x equal))

  pub offers_some : (n c : ℕ) → set.contains cpus c ≡ true → w c ≡ n → has_some (offer_at m homes cpus n) ≡ true
  offers_some n c has is = by_len (set.len (of_weight m homes cpus n)) refl
    where
      there : set.contains (of_weight m homes cpus n) c ≡ true
      there = contains-of_weight n c ∙ rw has (grind (arith, nat_tests))

      by_len : (k : ℕ) → set.len (of_weight m homes cpus n) ≡ k → nat_lt 0 (set.len (of_weight m homes cpus n)) ≡ true
      by_len zero e = absurd (true≢false (sym there ∙ ap (λ s. set.contains s c) (set.empty_of_len _ e) ∙ contains-empty c))
      by_len (suc k) e = grind (arith, nat_tests)

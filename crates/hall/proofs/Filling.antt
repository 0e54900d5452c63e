-- Rows filled one after another: each holds as many CPUs as it asks for, or some together may have too few.
use Rattle.std.proofs.Common.{◌≡◌, ℕ, zero, suc, ◌+◌, ◌<◌, ◌≤◌, Bool, sym, ap, ◌∙◌, inl, inr, ◌⊎◌, arith}
use Rattle.std.specs.Prelude.{◌==◌}
use Rattle.std.proofs.lemmas.Bool.{cases_eq, cases_lt, ne_eqb}
use Rattle.hall.specs.CountingLaws.{count_nothing}
use Rattle.hall.proofs.Moving.{held}
use Rattle.hall.proofs.Searching.{IsAllowed, IsStopped, IsFilled, IsLacking, fill}

-- each row asks for so many CPUs
module _ (cpus rows : ℕ) (may : ℕ → ℕ → Bool) (demands : ℕ → ℕ) where
  -- the first rows hold what they ask for, and the others nothing
  pub record AreFilled (own : ℕ → ℕ) (upto : ℕ) : Type 0 where
    pub allowed : IsAllowed cpus rows may own
    pub met : (k : ℕ) → k < upto → held cpus own k ≡ demands k
    pub none : (k : ℕ) → upto ≤ k → k < rows → held cpus own k ≡ 0

  -- a marked row lacks CPUs, and the marked rows hold all that they may have
  pub record AreStopped (own : ℕ → ℕ) (marks : ℕ → Bool) : Type 0 where
    pub root : ℕ
    pub there : root < rows
    pub stopped : IsStopped cpus rows may root there own marks
    pub lacks : held cpus own root < demands root
    pub few : (k : ℕ) → k < rows → held cpus own k ≤ demands k

  abbrev pub AllOrStopped : Type 0
  AllOrStopped = ((own : ℕ → ℕ) × AreFilled own rows) ⊎ ((own : ℕ → ℕ) × (marks : ℕ → Bool) × AreStopped own marks)

  row_filled : (own new : ℕ → ℕ) (r : ℕ) (there : r < rows) → AreFilled own r → IsFilled cpus rows may r there own new (demands r) → AreFilled new (suc r)
  row_filled own new r there before end = record {
    allowed = end.allowed;
    met = λ k lt. met k lt (cases_eq k r);
    none = λ k past lt. end.others k lt (λ e. absurd (omega (arith, e, past))) ∙ before.none k (omega (arith, past)) lt;
  }
    where
      met : (k : ℕ) → k < suc r → (k ≡ r) ⊎ (k ≡ r → ⊥) → held cpus new k ≡ demands k
      met k lt (inl e) = ap (held cpus new) e ∙ end.filled ∙ ap demands (sym e)
      met k lt (inr ne) = end.others k (omega (arith, there, lt)) ne ∙ before.met k (omega (arith, ne, lt))

  row_lacking :
      (own new : ℕ → ℕ) (marks : ℕ → Bool) (r : ℕ) (there : r < rows) → AreFilled own r → IsLacking cpus rows may r there own new marks (demands r)
      → AreStopped new marks
  row_lacking own new marks r there before end = record {
    root = r;
    there = there;
    stopped = end.stopped;
    lacks = end.lacks;
    few = λ k lt. few k lt (cases_eq k r) (cases_lt k r);
  }
    where
      few : (k : ℕ) → k < rows → (k ≡ r) ⊎ (k ≡ r → ⊥) → (k < r) ⊎ (r ≤ k) → held cpus new k ≤ demands k
      few k lt (inl e) either = omega (arith, ap (held cpus new) e, ap demands e, end.lacks)
      few k lt (inr ne) (inl below) = omega (arith, end.others k lt ne, before.met k below)
      few k lt (inr ne) (inr past) = omega (arith, end.others k lt ne, before.none k past lt)

  fill_from : (left upto : ℕ) (own : ℕ → ℕ) → upto + left ≡ rows → AreFilled own upto → AllOrStopped
  fill_from zero upto own e before = inl (
    own,
    record {
      allowed = before.allowed;
      met = λ k lt. before.met k (omega (arith, e, lt));
      none = λ k past lt. absurd (omega (arith, past, lt));
    },
  )
  fill_from (suc left) upto own e before =
      let there : upto < rows = omega (arith, e) in
      elim (fill cpus rows may upto there (demands upto) own (demands upto) before.allowed (omega (arith, before.none upto (omega arith) there))) [
        | inl end ↦ fill_from left (suc upto) end.0 (omega (arith, e)) (row_filled own end.0 upto there before end.1)
        | inr end ↦ inr (end.0, end.1, row_lacking own end.0 end.1 upto there before end.2)
      ]

  nobody : ℕ → ℕ
  nobody c = rows

  nobody_holds : AreFilled nobody 0
  unfolding nobody
  nobody_holds = record {
    allowed = λ c lt mine. absurd (omega (arith, mine));
    met = λ k lt. absurd (omega (arith, lt));
    none = λ k past lt. count_nothing (λ c. rows == k) cpus (λ i i_lt. ne_eqb rows k (λ e. absurd (omega (arith, e, lt))));
  }

  -- each row holds what it asks for, or a marked one lacks CPUs
  pub all_or_stopped : AllOrStopped
  all_or_stopped = fill_from rows 0 nobody (omega arith) nobody_holds

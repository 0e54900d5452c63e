-- What is shown to be a shortage has no fault, and what has none is shown.
use Rattle.std.proofs.Common.{◌≡◌, ℕ, not, Some, None, Result, Ok, Err, IfOk, IfErr, OnOk, List, length, refl, ap, ◌∙◌, subst, inl, inr, nat_lt}
use Rattle.std.specs.Result.{result_err}
use Rattle.std.proofs.lemmas.Bool.{ltb-true, ltb-false, lt-ltb}
use Rattle.faults.specs.First.{when}
use Rattle.faults.specs.TestLaws.{none_of_both, passed}
use Rattle.certificate.specs.RowView.{RowView}
use Rattle.certificate.specs.IsShortage.{chosen, asked, offered, HasNoPlan}
use Rattle.certificate.specs.IsShown.{IsShown}
use Rattle.certificate.specs.Limits.{is_shortage_within_limits}
use Rattle.certificate.specs.ShortageFault.{shortage_fault}
use Rattle.certificate.specs.IsCause.{IsShortageCause}
use Rattle.certificate.specs.declared.fault.CheckFault.{CheckFault}
use Rattle.certificate.specs.declared.fault.CheckFault.TheVariants.{BadProblem, NoShortage}
use Rattle.certificate.proofs.LimitFacts.{number_facts, numbered}
use Rattle.certificate.proofs.Causes.{first_or_rest, only, failed}
use Rattle.certificate.proofs.Hall.{shortage_leaves_no_plan}

module _ (rows : List RowView) (members : List ℕ) where
  abbrev wanted : ℕ
  wanted = asked (chosen rows members)

  abbrev there : ℕ
  there = length (offered (chosen rows members))

  pub shortage_fault-says : shortage_fault rows members ≡ None → IsShown rows members wanted there
  unfolding shortage_fault
  shortage_fault-says none =
      let first = none_of_both (when (not (is_shortage_within_limits rows members)) BadProblem) _ none in
      let second = none_of_both (when (not (nat_lt there wanted)) NoShortage) None first.1 in
      let facts = number_facts rows members (passed _ BadProblem first.0) in
      record {
        limits = facts.fit;
        shortage = record { rising = facts.rising; there = facts.there; short = ltb-true _ _ (passed (nat_lt there wanted) NoShortage second.0) };
        asks = refl;
        has = refl;
      }

  pub shortage_fault-none : (n m : ℕ) → IsShown rows members n m → shortage_fault rows members ≡ None
  unfolding shortage_fault
  shortage_fault-none n m shown =
      rw (numbered rows members shown.limits shown.shortage.rising shown.shortage.there, lt-ltb there wanted shown.shortage.short) refl

  pub shortage_cause : (fault : CheckFault) → shortage_fault rows members ≡ Some fault → IsShortageCause rows members fault
  unfolding shortage_fault
  shortage_cause fault found =
      elim (first_or_rest (when (not (is_shortage_within_limits rows members)) BadProblem) _ fault found) [
        | inl bad ↦
            let r = failed (is_shortage_within_limits rows members) BadProblem fault bad in
            subst (λ f. IsShortageCause rows members f) r.1 r.0
        | inr rest ↦
            let r = failed (nat_lt there wanted) NoShortage fault (only _ fault rest.1) in
            subst (λ f. IsShortageCause rows members f) r.1
            (passed (is_shortage_within_limits rows members) BadProblem rest.0, ltb-false there wanted r.0)
      ]

  -- ---- what the check answers, from its fault and its counts

  pub answer_is_shown :
      (r : Result (ℕ × ℕ) CheckFault) → shortage_fault rows members ≡ result_err r → IfOk r (λ n. n.0 ≡ wanted) → IfOk r (λ n. n.1 ≡ there)
      → IfOk r (λ n. IsShown rows members n.0 n.1)
  answer_is_shown (Ok n) none asks has = rw (asks, has) (shortage_fault-says none)
  answer_is_shown (Err e) fault asks has = tt

  pub answer_leaves_no_plan : (r : Result (ℕ × ℕ) CheckFault) → shortage_fault rows members ≡ result_err r → OnOk r (HasNoPlan rows)
  answer_leaves_no_plan (Ok n) none = shortage_leaves_no_plan rows members (shortage_fault-says none).shortage
  answer_leaves_no_plan (Err e) fault = tt

  pub answer_is_complete :
      (r : Result (ℕ × ℕ) CheckFault) → shortage_fault rows members ≡ result_err r → IfOk r (λ n. n.0 ≡ wanted) → IfOk r (λ n. n.1 ≡ there)
      → (n m : ℕ) → IsShown rows members n m → r ≡ Ok (n, m)
  answer_is_complete (Ok k) none asks has n m shown = ap Ok (pair k n m (asks ∙ shown.asks) (has ∙ shown.has))
    where
      pair : (k : ℕ × ℕ) (n m : ℕ) → k.0 ≡ n → k.1 ≡ m → k ≡ (n, m)
      pair k n m e f = λ i. (e i, f i)
  answer_is_complete (Err e) fault asks has n m shown = absurd (cc (fault, shortage_fault-none n m shown))

  pub answer_has_its_cause :
      (r : Result (ℕ × ℕ) CheckFault) → shortage_fault rows members ≡ result_err r → IfErr r (λ fault. IsShortageCause rows members fault)
  answer_has_its_cause (Ok n) none = tt
  answer_has_its_cause (Err e) fault = shortage_cause e fault

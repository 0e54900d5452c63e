-- What a certificate of too many rows comes to.
use Rattle.std.proofs.Common.{◌≡◌, ℕ, Bool, true, false, not, ◌&&◌, nat_lt, inl, inr, List, [], ◌∷◌, length, Some, refl, ap, sym, ◌∙◌, subst, arith}
use Rattle.std.specs.Prelude.{◌==◌, nat_le}
use Rattle.std.specs.List.{list_all}
use Rattle.std.proofs.lemmas.Bool.{false≢true}
use Rattle.std.proofs.lemmas.Bool.Decides.{nat_tests}
use Rattle.faults.specs.First.{when, first_of}
use Rattle.cpu_set.specs.Ids.{Ids}
use Rattle.certificate.specs.Cost.{cost}
use Rattle.certificate.specs.Limits.{row_fits, rows_fit, is_within_limits, is_shortage_within_limits}
use Rattle.certificate.specs.PlanFault.{plan_fault}
use Rattle.certificate.specs.PricesView.{PricesView}
use Rattle.certificate.specs.RowView.{RowView}
use Rattle.certificate.specs.Scaled.{are_scaled}
use Rattle.certificate.specs.ShortageFault.{shortage_fault}
use Rattle.certificate.specs.Verdict.{IsFaultOf, IsProvedCertificate}
use Rattle.certificate.specs.declared.certificates.Certificate.{Certificate}
use Rattle.certificate.specs.declared.certificates.Certificate.TheVariants.{Plan as PlanCertificate, Short as ShortCertificate}
use Rattle.certificate.specs.declared.checking.Verdict.{Verdict}
use Rattle.certificate.specs.declared.checking.Verdict.TheVariants.{Plan, Moves, Short}
use Rattle.certificate.specs.declared.fault.CheckFault.TheVariants.{BadProblem, Gap}
use Rattle.certificate.specs.declared.limits.TheConstants.{MAX_ROWS}
use Rattle.certificate.specs.declared.weights.Weights.TheVariants.{Plain, WithMoves}
use Rattle.certificate_text.specs.DraftView.{DraftView}
use Rattle.certificate_text.specs.Finished.{IsDraftOf}
use Rattle.certificate_text.specs.Verdict.{IsVerdict, SaysThat}
use Rattle.certificate_text.proofs.Finishing.{rows_of, rows_finished}
use Rattle.certificate_text.proofs.Grammar.{one_certificate}

abbrev IsTooMany : List RowView → Type 0
IsTooMany rows = nat_lt MAX_ROWS (length rows) ≡ true

no_fit : (rows : List RowView) → IsTooMany rows → rows_fit rows ≡ false
unfolding rows_fit
no_fit rows many =
    let past : nat_le (length rows) MAX_ROWS ≡ false = grind (arith, nat_tests) in
    ap (λ b. b && list_all row_fits rows) past

-- such rows are refused, whatever else the certificate says
plan_refused : (rows : List RowView) (sets : List Ids) (prices : PricesView) → IsTooMany rows
    → (is_within_limits rows sets prices ≡ false) × (plan_fault rows sets prices ≡ Some BadProblem)
unfolding is_within_limits plan_fault
plan_refused rows sets prices many =
    let past : rows_fit rows ≡ false = no_fit rows many in
    (rw past refl, rw past refl)

shortage_refused : (rows : List RowView) (members : List ℕ) → IsTooMany rows
    → (is_shortage_within_limits rows members ≡ false) × (shortage_fault rows members ≡ Some BadProblem)
unfolding is_shortage_within_limits shortage_fault
shortage_refused rows members many =
    let past : rows_fit rows ≡ false = no_fit rows many in
    (rw past refl, rw past refl)

too_many : (c : Certificate) → IsTooMany (rows_of c) → IsFaultOf BadProblem c
too_many (PlanCertificate rows sets prices total Plain) many =
    let p = plan_refused rows sets prices many in
    record { first = ap (λ o. first_of (o ∷ when (not (cost rows sets == total)) Gap ∷ [])) p.1; cause = inr (inl p.0) }
too_many (PlanCertificate rows sets prices total WithMoves) many =
    let p = plan_refused rows sets prices many in
    at (are_scaled rows) refl p.0 p.1
  where
    at : (b : Bool) → are_scaled rows ≡ b → is_within_limits rows sets prices ≡ false → plan_fault rows sets prices ≡ Some BadProblem
        → IsFaultOf BadProblem (PlanCertificate rows sets prices total WithMoves)
    at true e past is = record {
      first = ap (λ b. first_of (when (not b) BadProblem ∷ plan_fault rows sets prices ∷ when (not (cost rows sets == total)) Gap ∷ [])) e
          ∙ ap (λ o. first_of (o ∷ when (not (cost rows sets == total)) Gap ∷ [])) is;
      cause = inr (inl past);
    }
    at false e past is = record {
      first = ap (λ b. first_of (when (not b) BadProblem ∷ plan_fault rows sets prices ∷ when (not (cost rows sets == total)) Gap ∷ [])) e;
      cause = inl (record { says_so = refl; not_so = e; is = refl });
    }
too_many (ShortCertificate rows members Plain) many =
    let p = shortage_refused rows members many in
    record { first = ap (λ o. first_of (o ∷ [])) p.1; cause = inr p.0 }
too_many (ShortCertificate rows members WithMoves) many =
    let p = shortage_refused rows members many in
    at (are_scaled rows) refl p.0 p.1
  where
    at : (b : Bool) → are_scaled rows ≡ b → is_shortage_within_limits rows members ≡ false → shortage_fault rows members ≡ Some BadProblem
        → IsFaultOf BadProblem (ShortCertificate rows members WithMoves)
    at true e past is = record {
      first = ap (λ b. first_of (when (not b) BadProblem ∷ shortage_fault rows members ∷ [])) e ∙ ap (λ o. first_of (o ∷ [])) is;
      cause = inr past;
    }
    at false e past is = record {
      first = ap (λ b. first_of (when (not b) BadProblem ∷ shortage_fault rows members ∷ [])) e;
      cause = inl (record { says_so = refl; not_so = e; is = refl });
    }

not_proved : (c : Certificate) (v : Verdict) → IsTooMany (rows_of c) → IsProvedCertificate c v → ⊥
not_proved (PlanCertificate rows sets prices total Plain) (Plan n) many p =
    false≢true (sym (plan_refused rows sets prices many).0 ∙ p.0.limits)
not_proved (PlanCertificate rows sets prices total WithMoves) (Moves n m) many p =
    false≢true (sym (plan_refused rows sets prices many).0 ∙ p.1.limits)
not_proved (ShortCertificate rows members Plain) (Short n m) many p = false≢true (sym (no_fit rows many) ∙ p.limits)
not_proved (ShortCertificate rows members WithMoves) (Short n m) many p = false≢true (sym (no_fit rows many) ∙ p.1.limits)
not_proved (PlanCertificate rows sets prices total Plain) (Moves n m) many p = p
not_proved (PlanCertificate rows sets prices total Plain) (Short n m) many p = p
not_proved (PlanCertificate rows sets prices total WithMoves) (Plan n) many p = p
not_proved (PlanCertificate rows sets prices total WithMoves) (Short n m) many p = p
not_proved (ShortCertificate rows members Plain) (Plan n) many p = p
not_proved (ShortCertificate rows members Plain) (Moves n m) many p = p
not_proved (ShortCertificate rows members WithMoves) (Plan n) many p = p
not_proved (ShortCertificate rows members WithMoves) (Moves n m) many p = p

many_rows : (d : DraftView) (text : List ℕ) (is : IsDraftOf text d) → IsTooMany d.rows → IsTooMany (rows_of is.0)
many_rows d text is many = subst IsTooMany (sym (rows_finished d is.0 is.1)) many

-- the text of such a draft stands for a certificate that is refused, and for none that is proved
pub many_refused : (text : List ℕ) (d : DraftView) → IsDraftOf text d → nat_lt MAX_ROWS (length d.rows) ≡ true → SaysThat text (IsFaultOf BadProblem)
many_refused text d is many = (is.0, is.2, too_many is.0 (many_rows d text is many))

pub many_unproved : (text : List ℕ) (d : DraftView) (v : Verdict) → IsDraftOf text d → nat_lt MAX_ROWS (length d.rows) ≡ true → IsVerdict text v → ⊥
many_unproved text d v is many p =
    not_proved p.0 v (subst (λ (c : Certificate). IsTooMany (rows_of c)) (one_certificate text is.0 p.0 is.2 p.1) (many_rows d text is many)) p.2

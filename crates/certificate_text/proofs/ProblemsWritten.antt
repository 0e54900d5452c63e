-- The rows of a problem's text can be written again.
use Rattle.std.proofs.Common.{◌≢◌, ℕ, List, [], ◌∷◌, sym, ◌∙◌, arith}
use Rattle.std.specs.Prelude.{All}
use Rattle.std.specs.List.{AllZip}
use Rattle.std.specs.FinSet as set
use Rattle.std.proofs.lemmas.List.Elements.{All-cons}
use Rattle.cpu_set.specs.declared.TheConstants.{CPU_LIMIT}
use Rattle.cpu_list.specs.ListText.{ListIsBelow}
use Rattle.certificate.specs.RowView.{RowView}
use Rattle.certificate.specs.declared.rows.Offer.{Offer}
use Rattle.certificate_text.specs.Line.{IsOfferWord, Spells}
use Rattle.certificate_text.specs.ProblemText.{ReadProblemsCanBeWritten, problem_lines}
use Rattle.certificate_text.specs.Written.{CanWriteRow, IsOfferHeld, IsRowHeld}

module _ (below : ListIsBelow) where
  offer_held : (word : List ℕ) (o : Offer) → IsOfferWord word o → IsOfferHeld o
  offer_held word o h = record { weight = h.weight_is.fits; cpus = λ n in_set. below CPU_LIMIT h.after n h.cpus_are.is_list (sym (h.cpus_are.names n) ∙ in_set) }

  offers_held : (ws : List (List ℕ)) (os : List Offer) → AllZip IsOfferWord ws os → All IsOfferHeld os × All (λ (o : Offer). o.cpus ≢ set.empty) os
  offers_held [] [] h = (λ k d lt. absurd (omega arith), λ k d lt. absurd (omega arith))
  offers_held [] (o ∷ os) h = absurd h
  offers_held (w ∷ ws) [] h = absurd h
  offers_held (w ∷ ws) (o ∷ os) h =
      let rest = offers_held ws os h.1 in
      (All-cons IsOfferHeld o os (offer_held w o h.0) rest.0, All-cons (λ (p : Offer). p.cpus ≢ set.empty) o os h.0.cpus_are.some rest.1)

  rows_held : (ls : List (List ℕ)) (rows : List RowView) → AllZip Spells ls (problem_lines rows) → All CanWriteRow rows × All IsRowHeld rows
  rows_held ls [] h = (λ k d lt. absurd (omega arith), λ k d lt. absurd (omega arith))
  rows_held [] (row ∷ rows) h = absurd h
  rows_held (l ∷ ls) (row ∷ rows) h =
      let rest = rows_held ls rows h.1 in
      let own = h.0.2 in
      let offers = offers_held own.more row.offers own.offers_are in (
        All-cons CanWriteRow row rows (record { id_is = own.id_is; offers_some = offers.1 }) rest.0,
        All-cons IsRowHeld row rows (record { demand = own.demand_is.fits; offers = offers.0 }) rest.1,
      )

  pub read_problems_can_be_written : ReadProblemsCanBeWritten
  read_problems_can_be_written text rows h =
      let both = rows_held h.2.behind rows h.2.spelled in
      record { can = both.0; held = both.1; apart = h.2.apart }

-- A certificate's lines, taken one after another, make the certificate.
use Rattle.std.proofs.Common.{◌≡◌, ℕ, zero, suc, ◌+◌, ◌<◌, ◌≤◌, true, false, not, ◌&&◌, ◌++◌, List, [], ◌∷◌, map, length, drop, get_or, Option, Some, None, refl, sym, ap, ◌∙◌, subst, arith, length-append}
use Rattle.std.proofs.lemmas.Bool.{and_from, cond-true, cond-false, false_from_ne_true, not_from_false, eq-eqb}
use Rattle.std.specs.Prelude.{◌==◌, slice_get, option_and_then}
use Rattle.std.specs.List.{All, AllPairs}
use Rattle.std.specs.Str.{bytes_eq}
use Rattle.std.proofs.lemmas.Slice.Eq.{bytes_eq-Decides}
use Rattle.std.proofs.lemmas.List.{append-nil, append_assoc}
use Rattle.std.proofs.lemmas.List.Kept.{AllPairs-from_increasing}
use Rattle.cpu_set.specs.Ids.{Ids}
use Rattle.certificate.specs.RowView.{RowView}
use Rattle.certificate.specs.PricesView.{PricesView}
use Rattle.certificate.specs.declared.price_lists.Price.{Price}
use Rattle.certificate.specs.declared.certificates.Certificate.{Certificate}
use Rattle.certificate.specs.declared.certificates.Certificate.TheVariants.{Plan, Short}
use Rattle.certificate.specs.declared.weights.Weights.{Weights}
use Rattle.certificate.specs.declared.weights.Weights.TheVariants.{Plain, WithMoves}
use Rattle.certificate_text.specs.declared.stage.Stage.{Stage}
use Rattle.certificate_text.specs.declared.stage.Stage.TheVariants.{Body, Totalled, Planned, Named, Shown}
use Rattle.certificate_text.specs.Line.{LineView, RowLine, HoldLine, PriceLine, TotalLine, ShortLine, EndLine}
use Rattle.certificate_text.specs.CertificateText.{hold_lines, id_at, short_lines, lines_of, CanBeText}
use Rattle.certificate_text.specs.Begun.{run}
use Rattle.certificate_text.specs.DraftView.{DraftView, are_same, has_id, is_id_of, is_held, number_in, number_of, with_member, next_in_body, next_at, next, empty_draft}
use Rattle.certificate_text.proofs.RowIds.{IsNew, Differ, has_id_from_new, new_after}

-- the draft in its body
abbrev pub body : Weights → List RowView → List Ids → List ℕ → List Price → DraftView
body weights rows sets values prices = record { stage = Body; rows = rows; sets = sets; values = values; prices = prices; members = []; from = 0; total = 0; weights = weights }

-- one step, where the next draft is known
run_step : (d e : DraftView) (l : LineView) (ls : List LineView) → next d l ≡ Some e → run d (l ∷ ls) ≡ run e ls
run_step d e l ls h = ap (λ (o : Option DraftView). option_and_then (λ x. run x ls) o) h

take_row : (weights : Weights) (done : List RowView) (row : RowView) → IsNew row.id done → next (body weights done [] [] []) (RowLine row) ≡ Some (body weights (done ++ row ∷ []) [] [] [])
take_row weights done row new =
    let absent = not_from_false (has_id row.id done) (has_id_from_new row.id done new) in
    cond-true (true && not (has_id row.id done)) (Some (body weights (done ++ row ∷ []) [] [] [])) None absent

run_rows : (weights : Weights) (done more : List RowView) (ls : List LineView) → AllPairs Differ (done ++ more)
    → run (body weights done [] [] []) (map RowLine more ++ ls) ≡ run (body weights (done ++ more) [] [] []) ls
run_rows weights done [] ls h = ap (λ rows. run (body weights rows [] [] []) ls) (sym (append-nil done))
run_rows weights done (row ∷ more) ls h =
    let whole : (done ++ row ∷ []) ++ more ≡ done ++ row ∷ more = append_assoc done (row ∷ []) more in
    let first = run_step (body weights done [] [] []) (body weights (done ++ row ∷ []) [] [] []) (RowLine row) (map RowLine more ++ ls) (take_row weights done row (new_after done row more h)) in
    let rest = run_rows weights (done ++ row ∷ []) more ls (rw whole h) in
    first ∙ rest ∙ ap (λ rows. run (body weights rows [] [] []) ls) whole

bytes_eq_refl : (bs : List ℕ) → bytes_eq bs bs ≡ true
bytes_eq_refl bs = let dec = bytes_eq-Decides bs bs in dec.1 refl

slice_get_seam : (done : List RowView) (row : RowView) (more : List RowView) (n : ℕ) → length done ≡ n → slice_get (done ++ row ∷ more) n ≡ Some row
slice_get_seam [] row more zero h = refl
slice_get_seam [] row more (suc n) h = absurd (omega arith)
slice_get_seam (r ∷ done) row more zero h = absurd (omega arith)
slice_get_seam (r ∷ done) row more (suc n) h = slice_get_seam done row more n (omega arith)

pub take_hold : (d : DraftView) (row : RowView) (s : Ids) (v : ℕ) → d.stage ≡ Body → slice_get d.rows (length d.sets) ≡ Some row
    → next d (HoldLine row.id s v) ≡ Some (record d { sets = d.sets ++ s ∷ []; values = d.values ++ v ∷ [] })
take_hold d row s v b g =
    let e : DraftView = record d { sets = d.sets ++ s ∷ []; values = d.values ++ v ∷ [] } in
    let mine : is_id_of row.id (slice_get d.rows (length d.sets)) ≡ true = ap (is_id_of row.id) g ∙ bytes_eq_refl row.id in
    let taken : next_in_body d (HoldLine row.id s v) ≡ Some e = cond-true (is_id_of row.id (slice_get d.rows (length d.sets))) (Some e) None mine in
    subst (λ (stage : Stage). next_at stage d (HoldLine row.id s v) ≡ Some e) (sym b) taken

run_holds : (weights : Weights) (rows done more : List RowView) (sets sets' : List Ids) (values values' : List ℕ) (ls : List LineView) → rows ≡ done ++ more
    → length sets ≡ length done → length sets' ≡ length more → length values' ≡ length more
    → run (body weights rows sets values []) (hold_lines more sets' values' ++ ls) ≡ run (body weights rows (sets ++ sets') (values ++ values') []) ls
run_holds weights rows done [] sets [] values [] ls e a b f =
    ap (λ s. run (body weights rows s values []) ls) (sym (append-nil sets)) ∙ ap (λ v. run (body weights rows (sets ++ []) v []) ls) (sym (append-nil values))
run_holds weights rows done (row ∷ more) sets (s ∷ sets') values (v ∷ values') ls e a b f =
    let at : slice_get rows (length sets) ≡ Some row = rw e (slice_get_seam done row more (length sets) (sym a)) in
    let first = run_step (body weights rows sets values []) (body weights rows (sets ++ s ∷ []) (values ++ v ∷ []) []) (HoldLine row.id s v) (hold_lines more sets' values' ++ ls)
    (take_hold (body weights rows sets values []) row s v refl at) in
    let whole : rows ≡ (done ++ row ∷ []) ++ more = e ∙ sym (append_assoc done (row ∷ []) more) in
    let long : length (sets ++ s ∷ []) ≡ length (done ++ row ∷ []) = simp length-append (omega arith) in
    let rest = run_holds weights rows (done ++ row ∷ []) more (sets ++ s ∷ []) sets' (values ++ v ∷ []) values' ls whole long (omega arith) (omega arith) in
    first ∙ rest ∙ ap (λ x. run (body weights rows x ((values ++ v ∷ []) ++ values') []) ls) (append_assoc sets (s ∷ []) sets')
    ∙ ap (λ x. run (body weights rows (sets ++ s ∷ sets') x []) ls) (append_assoc values (v ∷ []) values')
run_holds weights rows done [] sets [] values (v ∷ values') ls e a b f = absurd (omega arith)
run_holds weights rows done [] sets (s ∷ sets') values values' ls e a b f = absurd (omega arith)
run_holds weights rows done (row ∷ more) sets [] values values' ls e a b f = absurd (omega arith)
run_holds weights rows done (row ∷ more) sets (s ∷ sets') values [] ls e a b f = absurd (omega arith)

take_price : (weights : Weights) (rows : List RowView) (sets : List Ids) (values : List ℕ) (prices : List Price) (p : Price) → length sets ≡ length rows
    → next (body weights rows sets values prices) (PriceLine p) ≡ Some (body weights rows sets values (prices ++ p ∷ []))
take_price weights rows sets values prices p h =
    cond-true (length sets == length rows) (Some (body weights rows sets values (prices ++ p ∷ []))) None (eq-eqb (length sets) (length rows) h)

run_prices : (weights : Weights) (rows : List RowView) (sets : List Ids) (values : List ℕ) (prices more : List Price) (ls : List LineView) → length sets ≡ length rows
    → run (body weights rows sets values prices) (map PriceLine more ++ ls) ≡ run (body weights rows sets values (prices ++ more)) ls
run_prices weights rows sets values prices [] ls h = ap (λ p. run (body weights rows sets values p) ls) (sym (append-nil prices))
run_prices weights rows sets values prices (p ∷ more) ls h =
    run_step (body weights rows sets values prices) (body weights rows sets values (prices ++ p ∷ [])) (PriceLine p) (map PriceLine more ++ ls) (take_price weights rows sets values prices p h)
    ∙ run_prices weights rows sets values (prices ++ p ∷ []) more ls h
    ∙ ap (λ x. run (body weights rows sets values x) ls) (append_assoc prices (p ∷ []) more)

same_self : (w : Weights) → are_same w w ≡ true
same_self Plain = refl
same_self WithMoves = refl

pub take_total : (d : DraftView) (total : ℕ) → d.stage ≡ Body → length d.sets ≡ length d.rows
    → next d (TotalLine d.weights total) ≡ Some (record d { stage = Totalled; total = total })
take_total d total b h =
    let e : DraftView = record d { stage = Totalled; total = total } in
    let tests = and_from (is_held d) (are_same d.weights d.weights) (eq-eqb (length d.sets) (length d.rows) h) (same_self d.weights) in
    let taken : next_in_body d (TotalLine d.weights total) ≡ Some e = cond-true (is_held d && are_same d.weights d.weights) (Some e) None tests in
    subst (λ (stage : Stage). next_at stage d (TotalLine d.weights total) ≡ Some e) (sym b) taken

-- the draft of a plan to which nothing can be added
abbrev pub ended : List RowView → List Ids → PricesView → ℕ → Weights → DraftView
ended rows sets prices total weights = record { stage = Planned; rows = rows; sets = sets; values = prices.values; prices = prices.of_cpu; members = []; from = 0; total = total; weights = weights }

run_end : (rows : List RowView) (sets : List Ids) (prices : PricesView) (total : ℕ) (weights : Weights) → length sets ≡ length rows
    → run (body weights rows sets prices.values prices.of_cpu) (TotalLine weights total ∷ EndLine ∷ []) ≡ Some (ended rows sets prices total weights)
run_end rows sets prices total weights h =
    let d : DraftView = body weights rows sets prices.values prices.of_cpu in
    run_step d (record d { stage = Totalled; total = total }) (TotalLine weights total) (EndLine ∷ []) (take_total d total refl h)

-- the draft of a shortage, and the same with its last line
abbrev pub named : Weights → List RowView → List ℕ → ℕ → DraftView
named weights rows members from = record { stage = Named; rows = rows; sets = []; values = []; prices = []; members = members; from = from; total = 0; weights = weights }

abbrev pub shown : Weights → List RowView → List ℕ → ℕ → DraftView
shown weights rows members from = record { stage = Shown; rows = rows; sets = []; values = []; prices = []; members = members; from = from; total = 0; weights = weights }

-- the first row after members of which the first is at or after a row
abbrev pub row_after : ℕ → List ℕ → ℕ
row_after from [] = from
row_after from (k ∷ ks) = row_after (k + 1) ks

-- numbers of rows, each after the one before
abbrev pub AreRising : List RowView → ℕ → List ℕ → Type 0
AreRising rows from [] = Unit {0}
AreRising rows from (k ∷ ks) = (from ≤ k) × (k < length rows) × AreRising rows (k + 1) ks

pub rising_from : (rows : List RowView) (from : ℕ) (ks : List ℕ) → AllPairs (λ j k. j < k) ks → All (λ k. from ≤ k) ks → All (λ k. k < length rows) ks → AreRising rows from ks
rising_from rows from [] up above below = tt
rising_from rows from (k ∷ ks) up above below = (
  above 0 0 (omega arith),
  below 0 0 (omega arith),
  rising_from rows (k + 1) ks (λ i j d lt long. up (suc i) (suc j) d (omega arith) (omega arith)) (λ j d lt. let a : k < get_or ks j d = up 0 (suc j) d (omega arith) (omega arith) in omega arith)
      (λ j d lt. below (suc j) d (omega arith)),
)

differ_tail : (row : RowView) (rows : List RowView) → AllPairs Differ (row ∷ rows) → AllPairs Differ rows
differ_tail row rows h = λ i j d lt long. h (suc i) (suc j) d (omega arith) (omega arith)

-- the row is found by its id: seen from the first row, and from a row before it
number_first : (rows : List RowView) (k at place : ℕ) → k < length rows → AllPairs Differ rows → place ≡ at + k → number_in (id_at rows k) at rows ≡ Some place
number_first [] k at place lt apart e = absurd (omega arith)
number_first (row ∷ rows) zero at place lt apart e =
    let here : at ≡ place = omega arith in
    cond-true (bytes_eq row.id row.id) (Some at) (number_in row.id (at + 1) rows) (bytes_eq_refl row.id) ∙ ap Some here
number_first (row ∷ rows) (suc k) at place lt apart e =
    let within : k < length rows = omega arith in
    let far : bytes_eq (id_at rows k) row.id ≡ false = not_here row rows k within apart in
    cond-false (bytes_eq (id_at rows k) row.id) (Some at) (number_in (id_at rows k) (at + 1) rows) far
    ∙ number_first rows k (at + 1) place within (differ_tail row rows apart) (omega arith)
  where
    id_at-get : (rows : List RowView) (k : ℕ) (d : RowView) → k < length rows → id_at rows k ≡ (get_or rows k d).id
    id_at-get [] k d lt = absurd (omega arith)
    id_at-get (r ∷ rs) zero d lt = refl
    id_at-get (r ∷ rs) (suc k) d lt = id_at-get rs k d (omega arith)

    not_here : (row : RowView) (rows : List RowView) (k : ℕ) → k < length rows → AllPairs Differ (row ∷ rows) → bytes_eq (id_at rows k) row.id ≡ false
    not_here row rows k lt apart =
        let dec = bytes_eq-Decides (id_at rows k) row.id in
        let other = apart 0 (suc k) row (omega arith) (omega arith) in
        false_from_ne_true (bytes_eq (id_at rows k) row.id) (λ e. other (sym (dec.0 e) ∙ id_at-get rows k row lt))

number_after : (rows : List RowView) (from k at start place : ℕ) → from ≤ k → k < length rows → AllPairs Differ rows → start ≡ at + from → place ≡ at + k
    → number_in (id_at rows k) start (drop from rows) ≡ Some place
number_after rows zero k at start place le lt apart s e = number_first rows k start place lt apart (omega arith)
number_after [] (suc from) k at start place le lt apart s e = absurd (omega arith)
number_after (row ∷ rows) (suc from) zero at start place le lt apart s e = absurd (omega arith)
number_after (row ∷ rows) (suc from) (suc k) at start place le lt apart s e =
    number_after rows from k (suc at) start place (omega arith) (omega arith) (differ_tail row rows apart) (omega arith) (omega arith)

number_there : (d : DraftView) (k : ℕ) → d.from ≤ k → k < length d.rows → AllPairs Differ d.rows → number_of (id_at d.rows k) d ≡ Some k
unfolding number_of
number_there d k le lt apart = number_after d.rows d.from k 0 d.from k le lt apart (omega arith) (omega arith)

pub take_short : (d : DraftView) (k : ℕ) → d.from ≤ k → k < length d.rows → AllPairs Differ d.rows
    → with_member d (number_of (id_at d.rows k) d) ≡ Some (record d { stage = Named; members = d.members ++ k ∷ []; from = k + 1 })
take_short d k le lt apart = ap (with_member d) (number_there d k le lt apart)

run_shorts : (weights : Weights) (rows : List RowView) (done : List ℕ) (from : ℕ) (more : List ℕ) (ls : List LineView) → AreRising rows from more → AllPairs Differ rows
    → run (named weights rows done from) (short_lines rows more ++ ls) ≡ run (named weights rows (done ++ more) (row_after from more)) ls
run_shorts weights rows done from [] ls r apart = ap (λ ms. run (named weights rows ms from) ls) (sym (append-nil done))
run_shorts weights rows done from (k ∷ more) ls r apart =
    run_step (named weights rows done from) (named weights rows (done ++ k ∷ []) (k + 1)) (ShortLine (id_at rows k)) (short_lines rows more ++ ls) (take_short (named weights rows done from) k r.0 r.1 apart)
    ∙ run_shorts weights rows (done ++ k ∷ []) (k + 1) more ls r.2 apart
    ∙ ap (λ ms. run (named weights rows ms (row_after (k + 1) more)) ls) (append_assoc done (k ∷ []) more)

run_shortage : (weights : Weights) (rows : List RowView) (members : List ℕ) → 0 < length members → AreRising rows 0 members → AllPairs Differ rows
    → run (body weights rows [] [] []) (short_lines rows members ++ EndLine ∷ []) ≡ Some (shown weights rows members (row_after 0 members))
run_shortage weights rows [] some r apart = absurd (omega arith)
run_shortage weights rows (k ∷ more) some r apart =
    run_step (body weights rows [] [] []) (named weights rows (k ∷ []) (k + 1)) (ShortLine (id_at rows k)) (short_lines rows more ++ EndLine ∷ []) (take_short (body weights rows [] [] []) k r.0 r.1 apart)
    ∙ run_shorts weights rows (k ∷ []) (k + 1) more (EndLine ∷ []) r.2 apart

-- the draft that the certificate's lines make
abbrev pub ended_of : Certificate → DraftView
ended_of (Plan rows sets prices total weights) = ended rows sets prices total weights
ended_of (Short rows members weights) = shown weights rows members (row_after 0 members)

pub run-lines_of : (c : Certificate) → CanBeText c → run empty_draft (lines_of c) ≡ Some (ended_of c)
run-lines_of (Plan rows sets prices total weights) h =
    let end = TotalLine weights total ∷ EndLine ∷ [] in
    let last = map PriceLine prices.of_cpu ++ end in
    let held = hold_lines rows sets prices.values ++ last in
    run_rows weights [] rows held h.apart
    ∙ run_holds weights rows [] rows [] sets [] prices.values last refl refl h.sets_len h.values_len
    ∙ run_prices weights rows sets prices.values [] prices.of_cpu end h.sets_len
    ∙ run_end rows sets prices total weights h.sets_len
run-lines_of (Short rows members weights) h =
    run_rows weights [] rows (short_lines rows members ++ EndLine ∷ []) h.apart
    ∙ run_shortage weights rows members h.some (rising_from rows 0 members (AllPairs-from_increasing members h.rising) (λ k d lt. omega arith) h.there) h.apart

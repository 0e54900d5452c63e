-- Each draft that lines make is the beginning of some certificate.
use Rattle.std.proofs.Common.{inr, ◌≡◌, ◌≢◌, ℕ, zero, suc, ◌+◌, ◌-◌, ◌<◌, ◌≤◌, ◌^◌, Bool, true, false, ◌||◌, ◌&&◌, ◌++◌, List, [], ◌∷◌, length, get_or, Option, Some, refl, sym, ap, ◌∙◌, subst, arith, length-append}
use Rattle.std.specs.Prelude.{codes, slice_get, option_and_then, ◌==◌, nat_le}
use Rattle.std.specs.List.{AllZip}
use Rattle.std.specs.FinSet as set
use Rattle.std.proofs.lemmas.Bool.{false≢true}
use Rattle.std.proofs.lemmas.Bool.Decides.{nat_tests}
use Rattle.std.proofs.lemmas.Fmt.{decimal_digit}
use Rattle.std.proofs.lemmas.Option.{get_or_from_slice_get}
use Rattle.std.proofs.lemmas.List.Splits.{slice_split_at}
use Rattle.cpu_set.specs.Ids.{Ids}
use Rattle.cpu_set.specs.PointwiseLaws.{contains-empty, contains-insert}
use Rattle.cpu_set.specs.declared.TheConstants.{CPU_LIMIT}
use Rattle.cpu_list.specs.ListText.{IsList, names, item_of, number_of, range_of}
use Rattle.certificate.specs.RowView.{RowView}
use Rattle.certificate.specs.declared.certificates.Certificate.{Certificate}
use Rattle.certificate.specs.declared.weights.Weights.{Weights}
use Rattle.certificate.specs.declared.weights.Weights.TheVariants.{Plain, WithMoves}
use Rattle.certificate_text.specs.declared.stage.Stage.{Stage}
use Rattle.certificate_text.specs.declared.stage.Stage.TheVariants.{Start, Body, Totalled, Planned, Named, Shown}
use Rattle.certificate_text.specs.IdWord.{is_id_letter, IsId}
use Rattle.certificate_text.specs.ListWord.{IsListWord}
use Rattle.certificate_text.specs.NumberWord.{IsNumber}
use Rattle.certificate_text.specs.Line.{LineView, HeaderLine, HoldLine, TotalLine, EndLine, Spells, words}
use Rattle.certificate_text.specs.Begun.{run, IsBegun}
use Rattle.certificate_text.specs.FirstBadLine.{CanBegin}
use Rattle.certificate_text.specs.Finished.{plan_of, shortage_of, finished, finished_at}
use Rattle.certificate_text.specs.DraftView.{DraftView, next, next_at, empty_draft}
use Rattle.certificate_text.proofs.Ids.{IsId-All}
use Rattle.certificate_text.proofs.DraftSteps.{IsRightAt, IsOrdered, ordered_hold, nothing_ordered}
use Rattle.certificate_text.proofs.DraftLines.{take_hold, take_total}
use Rattle.certificate_text.proofs.Grammar.{begun_holds, begun_ended}
use Rattle.certificate_text.proofs.Runs.{run_after}
use Rattle.certificate_text.proofs.Zips.{zip_append}

-- 0 as a word, and the set that the word names
zero_set : Ids
zero_set = set.insert set.empty 0

zero_is_number : IsNumber (2 ^ 64) (codes "0") 0
zero_is_number = record { digits = sym (decimal_digit 0 (omega arith)); fits = omega arith }

zero_is_list : IsList CPU_LIMIT (codes "0")
unfolding range_of number_of item_of
zero_is_list = (inr (0, 0, refl, omega arith, omega arith), tt)

only_zero : (n : ℕ) → ((n == 0) || false) ≡ (nat_le 0 n && nat_le n 0 || false)
only_zero n = grind (arith, nat_tests)

zero_names : (n : ℕ) → set.contains zero_set n ≡ names (codes "0") n
unfolding zero_set range_of number_of item_of
zero_names n = contains-insert set.empty 0 n ∙ ap (λ b. (n == 0) || b) (contains-empty n) ∙ only_zero n

zero_some : zero_set ≢ set.empty
unfolding zero_set
zero_some e = false≢true (sym (contains-empty 0) ∙ ap (λ (s : Ids). set.contains s 0) (sym e) ∙ contains-insert set.empty 0 0)

zero_list : IsListWord (codes "0") zero_set
zero_list = record { is_list = zero_is_list; names = zero_names; some = zero_some }

letter_is_no_space : (b : ℕ) → is_id_letter b ≡ true → (b == 32) ≡ false
letter_is_no_space b h = at (b == 32) refl where
  at : (t : Bool) → (b == 32) ≡ t → (b == 32) ≡ false
  at false e = e
  at true e = absurd (grind (arith, nat_tests))

-- hold ID 0 0
hold_zero : List ℕ → List ℕ
hold_zero id = codes "hold" ++ 32 ∷ (id ++ 32 ∷ codes "0 0")

words-id : (id : List ℕ) → IsId id → words (id ++ 32 ∷ codes "0 0") ≡ id ∷ codes "0" ∷ codes "0" ∷ []
words-id id h = slice_split_at (λ b. b == 32) id 32 (codes "0 0") (λ k d lt. letter_is_no_space (get_or id k d) (IsId-All id h k d lt)) refl

spells_hold : (id : List ℕ) → IsId id → Spells (hold_zero id) (HoldLine id zero_set 0)
unfolding hold_zero
spells_hold id h = (
  words (id ++ 32 ∷ codes "0 0"),
  refl,
  record {
    list = codes "0";
    number = codes "0";
    words_are = words-id id h;
    cpus_are = zero_list;
    value_is = zero_is_number;
  },
)

zero_below : (limit : ℕ) → 0 < limit → IsNumber limit (codes "0") 0
zero_below limit some = record { digits = zero_is_number.digits; fits = some }

-- total 0, or total 0 moves 0
total_zero : Weights → List ℕ
total_zero Plain = codes "total 0"
total_zero WithMoves = codes "total 0 moves 0"

spells_total : (weights : Weights) → Spells (total_zero weights) (TotalLine weights 0)
unfolding total_zero
spells_total Plain = (codes "0" ∷ [], refl, record { number = codes "0"; words_are = refl; total_is = zero_is_number })
spells_total WithMoves = (
  codes "0" ∷ codes "moves" ∷ codes "0" ∷ [],
  refl,
  record {
    first = codes "0";
    second = codes "0";
    distance = 0;
    moves = 0;
    words_are = refl;
    distance_is = zero_below (2 ^ 48) (omega arith);
    moves_is = zero_below (2 ^ 16) (omega arith);
    total_is = refl;
  },
)

-- lines that lead from the draft to an ended one
pub record Completes (d : DraftView) : Type 0 where
  pub more : List (List ℕ)
  pub said : List LineView
  pub last : DraftView
  pub whole : Certificate
  pub spelled : AllZip Spells more said
  pub run_is : run d said ≡ Some last
  pub ended : finished last ≡ Some whole

-- with one line more before them
completes_before : (d e : DraftView) (line : List ℕ) (l : LineView) → Spells line l → next d l ≡ Some e → Completes e → Completes d
completes_before d e line l s n c = record {
  more = line ∷ c.more;
  said = l ∷ c.said;
  last = c.last;
  whole = c.whole;
  spelled = (s, c.spelled);
  run_is = run_after d e (l ∷ []) c.said (ap (λ (o : Option DraftView). option_and_then (λ x. run x []) o) n) ∙ c.run_is;
  ended = c.ended;
}

complete_ended : (d : DraftView) (c : Certificate) → finished d ≡ Some c → Completes d
complete_ended d c h = record { more = []; said = []; last = d; whole = c; spelled = tt; run_is = refl; ended = h }

complete_planned : (d : DraftView) → d.stage ≡ Planned → Completes d
complete_planned d h = complete_ended d (plan_of d) (subst (λ (s : Stage). finished_at s d ≡ Some (plan_of d)) (sym h) refl)

complete_shown : (d : DraftView) → d.stage ≡ Shown → Completes d
complete_shown d h = complete_ended d (shortage_of d) (subst (λ (s : Stage). finished_at s d ≡ Some (shortage_of d)) (sym h) refl)

complete_named : (d : DraftView) → d.stage ≡ Named → Completes d
complete_named d h =
    let e : DraftView = record d { stage = Shown } in
    let taken : next_at Named d EndLine ≡ Some e = refl in
    let n : next d EndLine ≡ Some e = subst (λ (s : Stage). next_at s d EndLine ≡ Some e) (sym h) taken in
    completes_before d e (codes "end") EndLine refl n (complete_shown e refl)

complete_totalled : (d : DraftView) → d.stage ≡ Totalled → Completes d
complete_totalled d h =
    let e : DraftView = record d { stage = Planned } in
    let taken : next_at Totalled d EndLine ≡ Some e = refl in
    let n : next d EndLine ≡ Some e = subst (λ (s : Stage). next_at s d EndLine ≡ Some e) (sym h) taken in
    completes_before d e (codes "end") EndLine refl n (complete_planned e refl)

complete_body : (k : ℕ) (d : DraftView) → d.stage ≡ Body → IsOrdered d.rows d.sets d.values d.prices → length d.rows ≡ length d.sets + k → Completes d
complete_body zero d b o h =
    let all : length d.sets ≡ length d.rows = omega arith in
    completes_before d (record d { stage = Totalled; total = 0 }) (total_zero d.weights) (TotalLine d.weights 0) (spells_total d.weights) (take_total d 0 b all)
    (complete_totalled (record d { stage = Totalled; total = 0 }) refl)
complete_body (suc k) d b o h =
    let nth = next_row d.rows (length d.sets) (omega arith) in
    let row : RowView = nth.0 in
    let e : DraftView = record d { sets = d.sets ++ zero_set ∷ []; values = d.values ++ 0 ∷ [] } in
    let long : length d.rows ≡ length (d.sets ++ zero_set ∷ []) + k = simp length-append (omega arith) in
    let lt : length d.sets < length d.rows = omega arith in
    let its : get_or d.rows (length d.sets) row ≡ row = get_or_from_slice_get d.rows (length d.sets) row row nth.1 in
    let id : IsId row.id = rw its at (o.ids (length d.sets) row lt) in
    completes_before d e (hold_zero row.id) (HoldLine row.id zero_set 0) (spells_hold row.id id) (take_hold d row zero_set 0 b nth.1)
    (complete_body k e b (ordered_hold d.rows d.sets d.values d.prices row zero_set 0 o nth.1) long)
  where
    next_row : (rows : List RowView) (n : ℕ) → n < length rows → (row : RowView) × (slice_get rows n ≡ Some row)
    next_row [] n lt = absurd (omega arith)
    next_row (r ∷ rows) zero lt = (r, refl)
    next_row (r ∷ rows) (suc n) lt = next_row rows n (omega arith)

complete_at : (stage : Stage) (d : DraftView) → d.stage ≡ stage → IsRightAt stage d → Completes d
complete_at Start d h r =
    let e : DraftView = record d { stage = Body; weights = Plain } in
    let taken : next_at Start d (HeaderLine Plain) ≡ Some e = refl in
    let n : next d (HeaderLine Plain) ≡ Some e = subst (λ (s : Stage). next_at s d (HeaderLine Plain) ≡ Some e) (sym h) taken in
    let o = nothing_ordered d.rows d.sets d.values d.prices r.0 in
    let long : length d.rows ≡ length d.sets + 0 = rw (r.0.no_rows, r.0.no_sets) refl in
    completes_before d e (codes "numarun-certificate 1") (HeaderLine Plain) refl n (complete_body 0 e refl o long)
complete_at Body d h r = let within : length d.sets ≤ length d.rows = r.0.within in complete_body (length d.rows - length d.sets) d h r.0 (omega arith)
complete_at Totalled d h r = complete_totalled d h
complete_at Planned d h r = complete_planned d h
complete_at Named d h r = complete_named d h
complete_at Shown d h r = complete_shown d h

-- some certificate begins with the lines that make a draft
pub begun_can : (ls : List (List ℕ)) (d : DraftView) → IsBegun ls d → CanBegin ls
begun_can ls d b =
    let h = begun_holds ls d b in
    let c = complete_at d.stage d refl h.right in
    let whole : IsBegun (ls ++ c.more) c.last = record {
      said = b.said ++ c.said;
      spelled = zip_append Spells ls c.more b.said c.said b.spelled c.spelled;
      run_is = run_after empty_draft d b.said c.said b.run_is ∙ c.run_is;
    } in
    (c.more, c.whole, begun_ended (ls ++ c.more) c.last c.whole whole c.ended)

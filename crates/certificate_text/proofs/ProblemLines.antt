-- How far a problem's text has been read.
use Rattle.std.proofs.Common.{◌≡◌, ℕ, ◌+◌, ◌<◌, ◌≤◌, inl, inr, Bool, true, false, not, ◌++◌, List, [], ◌∷◌, length, map, Result, Ok, Err, IfOk, IfErr, Some, None, refl, sym, ap, ◌∙◌, subst, arith, length-append}
use Rattle.std.specs.Prelude.{codes, IsSome, ◌==◌}
use Rattle.std.specs.List.{AllZip}
use Rattle.std.proofs.lemmas.List.{append-nil, append_assoc, map-append}
use Rattle.std.proofs.lemmas.List.Splits.{join_with_byte-slice_split}
use Rattle.std.specs.List.{join_with_byte}
use Rattle.faults.specs.declared.or_memory.OrMemory.{OrMemory}
use Rattle.faults.specs.declared.or_memory.OrMemory.TheVariants.{Memory, Fault}
use Rattle.certificate.specs.RowView.{RowView}
use Rattle.certificate_text.specs.declared.reading.BadText.{BadText}
use Rattle.certificate_text.specs.CertificateText.{HaveOwnIds}
use Rattle.certificate_text.specs.DraftView.{DraftView, has_id, next}
use Rattle.certificate_text.specs.Line.{LineView, HeaderLine, RowLine, HoldLine, PriceLine, TotalLine, ShortLine, EndLine, Spells}
use Rattle.certificate_text.specs.LineRead.{line_view}
use Rattle.certificate_text.specs.LineTaken.{TakesLine}
use Rattle.certificate_text.specs.Takes.{Takes}
use Rattle.certificate_text.specs.declared.bad_line.BadLine.{BadLine}
use Rattle.certificate_text.specs.declared.line.Line.{Line}
use Rattle.certificate_text.specs.declared.line.Line.TheVariants as line
use Rattle.certificate_text.specs.Parts.{parts}
use Rattle.certificate_text.specs.ProblemError.{CanBeginProblem, IsFirstBadProblemLine, ProblemAsksForMemory, IsProblemError, IsProblemRead}
use Rattle.certificate_text.specs.ProblemText.{AreProblemLines, IsProblemText, problem_header, problem_lines}
use Rattle.certificate_text.specs.RowTaken.{TakesRow, rows_draft}
use Rattle.std.proofs.lemmas.Option.{none-some, same_Some}
use Rattle.certificate_text.proofs.BadLines.{front_of, last_of, some_of}
use Rattle.certificate_text.proofs.Cuts.{never_empty}
use Rattle.certificate_text.proofs.ProblemRows.{cannot_follow, never_ended, no_row_is, nothing_behind, one_problem, rows_begin}
use Rattle.certificate_text.proofs.RowIds.{differ_more, new_from_has_id}
use Rattle.certificate_text.proofs.SpelledOnce.{spelled_once}
use Rattle.certificate_text.proofs.Zips.{zip_append, zip_once}

-- so far: the first line and lines of these rows, and the rest begins at the line of this number
pub record IsRowsTo (text rest : List ℕ) (rows : List RowView) (n : ℕ) : Type 0 where
  pub behind : List (List ℕ)
  pub whole : parts 10 text ≡ (problem_header ∷ behind) ++ parts 10 rest
  pub spelled : AllZip Spells behind (map RowLine rows)
  pub apart : HaveOwnIds rows
  pub number : n ≡ length behind + 2
  pub fits : n + length rest ≤ length text + 1

pub rows_none : (text first rest : List ℕ) → parts 10 text ≡ first ∷ parts 10 rest → length rest < length text → first ≡ problem_header → IsRowsTo text rest [] 2
rows_none text first rest cut shorter is = record {
  behind = [];
  whole = cut ∙ ap (λ l. l ∷ parts 10 rest) is;
  spelled = tt;
  apart = λ i j d lt long. absurd (omega arith);
  number = refl;
  fits = omega arith;
}

pub rows_more : (text rest line after : List ℕ) (rows : List RowView) (n : ℕ) (row : RowView) → IsRowsTo text rest rows n → parts 10 rest ≡ line ∷ parts 10 after
    → length after < length rest → Spells line (RowLine row) → has_id row.id rows ≡ false → IsRowsTo text after (rows ++ row ∷ []) (n + 1)
rows_more text rest line after rows n row r cut shorter s new =
    let number : n ≡ length r.behind + 2 = r.number in
    let fits : n + length rest ≤ length text + 1 = r.fits in
    let one : AllZip Spells (line ∷ []) (RowLine row ∷ []) = (s, tt) in
    let all : AllZip Spells (r.behind ++ line ∷ []) (map RowLine rows ++ RowLine row ∷ []) = zip_append Spells r.behind (line ∷ []) (map RowLine rows) (RowLine row ∷ []) r.spelled one in
    record {
      behind = r.behind ++ line ∷ [];
      whole = r.whole ∙ ap (λ ls. (problem_header ∷ r.behind) ++ ls) cut ∙ sym (append_assoc (problem_header ∷ r.behind) (line ∷ []) (parts 10 after));
      spelled = subst (λ (ls : List LineView). AllZip Spells (r.behind ++ line ∷ []) ls) (sym (map-append RowLine rows (row ∷ []))) all;
      apart = differ_more rows row r.apart (new_from_has_id row.id rows new);
      number = simp length-append (omega arith);
      fits = omega arith;
    }

begun_by : (behind : List (List ℕ)) (rows : List RowView) → AllZip Spells behind (map RowLine rows) → HaveOwnIds rows → CanBeginProblem (problem_header ∷ behind)
begun_by behind rows spelled apart = (codes "end" ∷ [], rows, rows_begin behind rows spelled apart)

-- a line with its feed that can't follow
bad_line : (text : List ℕ) (before : List (List ℕ)) (line rest : List ℕ) (n : ℕ) → parts 10 text ≡ before ++ line ∷ parts 10 rest → n ≡ length before + 1
    → CanBeginProblem before → (CanBeginProblem (before ++ line ∷ []) → ⊥) → IsFirstBadProblemLine text n
bad_line text before line rest n whole number begun cannot = record {
  before = before;
  line = line;
  after = parts 10 rest;
  lines_are = whole;
  number = number;
  begun = begun;
  cannot = inr cannot;
  no_text = λ rows t.
      let p = front_of before line (parts 10 rest) t.0 (sym whole ∙ t.1) (never_empty (λ x. x == 10) rest) in
      cannot (p.0, rows, subst (λ (k : List (List ℕ)). AreProblemLines k rows) p.1 t.2);
}

-- a line without its feed
bad_end : (text : List ℕ) (before : List (List ℕ)) (last : List ℕ) (n : ℕ) → parts 10 text ≡ before ++ last ∷ [] → n ≡ length before + 1
    → CanBeginProblem before → ((rows : List RowView) → AreProblemLines before rows → ⊥) → IsFirstBadProblemLine text n
bad_end text before last n whole number begun short = record {
  before = before;
  line = last;
  after = [];
  lines_are = whole;
  number = number;
  begun = begun;
  cannot = inl refl;
  no_text = λ rows t.
      let same : before ≡ t.0 = (last_of before t.0 last (sym whole ∙ t.1)).1 in
      short rows (subst (λ (k : List (List ℕ)). AreProblemLines k rows) (sym same) t.2);
}

none_begun : CanBeginProblem []
none_begun = (problem_header ∷ codes "end" ∷ [], [], rows_begin [] [] tt (λ i j d lt long. absurd (omega arith)))

-- the first line is another
other_first : (line : List ℕ) → (line ≡ problem_header → ⊥) → CanBeginProblem (line ∷ []) → ⊥
other_first line other can = other (let e = can.2.lines_are in cc)

pub bad_first : (text first rest : List ℕ) → parts 10 text ≡ first ∷ parts 10 rest → (first ≡ problem_header → ⊥) → IsFirstBadProblemLine text 1
bad_first text first rest cut other = bad_line text [] first rest 1 cut refl none_begun (other_first first other)

-- and there is none
pub no_first : (text : List ℕ) → parts 10 text ≡ text ∷ [] → IsFirstBadProblemLine text 1
no_first text cut = bad_end text [] text 1 cut refl none_begun (λ rows a. let e : [] ≡ problem_header ∷ a.behind = a.lines_are in absurd (cc))

pub rows_bad : (text rest line after : List ℕ) (rows : List RowView) (n : ℕ) → IsRowsTo text rest rows n → parts 10 rest ≡ line ∷ parts 10 after
    → (line ≡ codes "end" → ⊥) → ((row : RowView) → Spells line (RowLine row) → has_id row.id rows ≡ true) → IsFirstBadProblemLine text n
rows_bad text rest line after rows n r cut no_end known =
    let number : n ≡ length r.behind + 2 = r.number in
    bad_line text (problem_header ∷ r.behind) line after n (r.whole ∙ ap (λ ls. (problem_header ∷ r.behind) ++ ls) cut) (omega arith)
    (begun_by r.behind rows r.spelled r.apart) (cannot_follow r.behind line rows r.spelled no_end known)

-- the text ends before the last line does
pub rows_short : (text rest : List ℕ) (rows : List RowView) (n : ℕ) → IsRowsTo text rest rows n → parts 10 rest ≡ rest ∷ [] → IsFirstBadProblemLine text n
rows_short text rest rows n r cut =
    let number : n ≡ length r.behind + 2 = r.number in
    bad_end text (problem_header ∷ r.behind) rest n (r.whole ∙ ap (λ ls. (problem_header ∷ r.behind) ++ ls) cut) (omega arith)
    (begun_by r.behind rows r.spelled r.apart) (λ all a.
    let behind : r.behind ≡ a.behind = let e = a.lines_are in cc in
    let its : AllZip Spells r.behind (problem_lines all) = subst (λ (k : List (List ℕ)). AllZip Spells k (problem_lines all)) (sym behind) a.spelled in
    never_ended rows all (zip_once Spells spelled_once r.behind (problem_lines all) (map RowLine rows) its r.spelled))

ended : (text rest line after : List ℕ) (rows : List RowView) (n : ℕ) (r : IsRowsTo text rest rows n) → parts 10 rest ≡ line ∷ parts 10 after → line ≡ codes "end"
    → parts 10 text ≡ (problem_header ∷ (r.behind ++ codes "end" ∷ [])) ++ parts 10 after
ended text rest line after rows n r cut is =
    r.whole ∙ ap (λ ls. (problem_header ∷ r.behind) ++ ls) (cut ∙ ap (λ l. l ∷ parts 10 after) is)
    ∙ sym (append_assoc (problem_header ∷ r.behind) (codes "end" ∷ []) (parts 10 after))

pub rows_all : (text rest line after : List ℕ) (rows : List RowView) (n : ℕ) → IsRowsTo text rest rows n → parts 10 rest ≡ line ∷ parts 10 after
    → line ≡ codes "end" → after ≡ [] → IsProblemText text rows
rows_all text rest line after rows n r cut is none = (
  problem_header ∷ (r.behind ++ codes "end" ∷ []),
  ended text rest line after rows n r cut is ∙ ap (λ (x : List ℕ). (problem_header ∷ (r.behind ++ codes "end" ∷ [])) ++ parts 10 x) none,
  rows_begin r.behind rows r.spelled r.apart,
)

no_bytes_of : (after : List ℕ) → parts 10 after ≡ [] ∷ [] → after ≡ []
no_bytes_of after e = sym (join_with_byte-slice_split 10 after) ∙ ap (join_with_byte 10) e

too_long : (before : List (List ℕ)) (l : List ℕ) (ls : List (List ℕ)) (after : List ℕ) → parts 10 after ≡ l ∷ ls → (after ≡ [] → ⊥) → (CanBeginProblem (before ++ l ∷ []) → ⊥)
    → (all : List RowView) (k : List (List ℕ)) → before ++ l ∷ ls ≡ k ++ [] ∷ [] → AreProblemLines k all → ⊥
too_long before l [] after cut some cannot all k e a = some (no_bytes_of after (cut ∙ ap (λ x. x ∷ []) (last_of before k l e).0))
too_long before l (m ∷ ls) after cut some cannot all k e a =
    let p = front_of before l (m ∷ ls) k e (λ h. absurd (cc)) in
    cannot (p.0, all, subst (λ (x : List (List ℕ)). AreProblemLines x all) p.1 a)

-- more stands behind the last line
pub rows_long : (text rest line after : List ℕ) (rows : List RowView) (n : ℕ) → IsRowsTo text rest rows n → parts 10 rest ≡ line ∷ parts 10 after
    → line ≡ codes "end" → (after ≡ [] → ⊥) → IsFirstBadProblemLine text (n + 1)
rows_long text rest line after rows n r cut is some = at (parts 10 after) refl where
  long : n + 1 ≡ length (problem_header ∷ (r.behind ++ codes "end" ∷ [])) + 1
  long = let number : n ≡ length r.behind + 2 = r.number in simp length-append (omega arith)

  begun : CanBeginProblem (problem_header ∷ (r.behind ++ codes "end" ∷ []))
  begun =
      let lines = rows_begin r.behind rows r.spelled r.apart in
      ([], rows, subst (λ (k : List (List ℕ)). AreProblemLines k rows) (sym (append-nil (problem_header ∷ (r.behind ++ codes "end" ∷ [])))) lines)

  at : (ls : List (List ℕ)) → parts 10 after ≡ ls → IsFirstBadProblemLine text (n + 1)
  at [] e = absurd (never_empty (λ x. x == 10) after e)
  at (l ∷ ls) e =
      let before = problem_header ∷ (r.behind ++ codes "end" ∷ []) in
      let whole : parts 10 text ≡ before ++ l ∷ ls = ended text rest line after rows n r cut is ∙ ap (λ x. before ++ x) e in
      let cannot = nothing_behind r.behind l rows r.spelled in
      record {
        before = before;
        line = l;
        after = ls;
        lines_are = whole;
        number = long;
        begun = begun;
        cannot = inr cannot;
        no_text = λ all t. too_long before l ls after e some cannot all t.0 (sym whole ∙ t.1) t.2;
      }

-- an allocation failed at a row
pub rows_ask : (text rest line after : List ℕ) (rows : List RowView) (n : ℕ) (row : RowView) → IsRowsTo text rest rows n → parts 10 rest ≡ line ∷ parts 10 after
    → length after < length rest → Spells line (RowLine row) → has_id row.id rows ≡ false → ProblemAsksForMemory text
rows_ask text rest line after rows n row r cut shorter s new =
    let m = rows_more text rest line after rows n row r cut shorter s new in
    record {
      before = problem_header ∷ r.behind;
      line = line;
      after = parts 10 after;
      row = row;
      lines_are = r.whole ∙ ap (λ ls. (problem_header ∷ r.behind) ++ ls) cut;
      ended = never_empty (λ x. x == 10) after;
      spelled = s;
      begun = begun_by (r.behind ++ line ∷ []) (rows ++ row ∷ []) (rows_spelled r s) m.apart;
    }
  where
    rows_spelled : IsRowsTo text rest rows n → Spells line (RowLine row) → AllZip Spells (r.behind ++ line ∷ []) (map RowLine (rows ++ row ∷ []))
    rows_spelled q t =
        let one : AllZip Spells (line ∷ []) (RowLine row ∷ []) = (s, tt) in
        subst (λ (ls : List LineView). AllZip Spells (r.behind ++ line ∷ []) ls) (sym (map-append RowLine rows (row ∷ [])))
        (zip_append Spells r.behind (line ∷ []) (map RowLine rows) (RowLine row ∷ []) r.spelled one)

-- what a draft of rows takes
row_at : (rows : List RowView) (row : RowView) (d : DraftView) (b : Bool) → has_id row.id rows ≡ b → next (rows_draft rows) (RowLine row) ≡ Some d
    → (has_id row.id rows ≡ false) × (d ≡ rows_draft (rows ++ row ∷ []))
row_at rows row d false e h = (e, sym (same_Some (rows_draft (rows ++ row ∷ [])) d (rw e at h)))
row_at rows row d true e h = absurd (none-some d (rw e at h))

pub row_new : (d e : DraftView) (row : RowView) → d ≡ rows_draft d.rows → next d (RowLine row) ≡ Some e → (has_id row.id d.rows ≡ false) × (e ≡ rows_draft (d.rows ++ row ∷ []))
row_new d e row is h = row_at d.rows row e (has_id row.id d.rows) refl (subst (λ (x : DraftView). next x (RowLine row) ≡ Some e) is h)

pub row_known : (d : DraftView) (row : RowView) → d ≡ rows_draft d.rows → next d (RowLine row) ≡ None → has_id row.id d.rows ≡ true
row_known d row is h = at (has_id row.id d.rows) refl (subst (λ (x : DraftView). next x (RowLine row) ≡ None) is h) where
  at : (b : Bool) → has_id row.id d.rows ≡ b → next (rows_draft d.rows) (RowLine row) ≡ None → has_id row.id d.rows ≡ true
  at true e n = e
  at false e n = absurd (none-some (rows_draft (d.rows ++ row ∷ [])) (sym (rw e at n)))

pub row_can : (d : DraftView) (row : RowView) → d ≡ rows_draft d.rows → IsSome (next d (RowLine row)) → has_id row.id d.rows ≡ false
row_can d row is h = let e = some_of (next d (RowLine row)) h in (row_new d e.0 row is e.1).0

-- with a line of the text
pub more_taken : (text rest line after : List ℕ) (d e : DraftView) (n : ℕ) → d ≡ rows_draft d.rows → IsRowsTo text rest d.rows n → parts 10 rest ≡ line ∷ parts 10 after
    → length after < length rest → (row : RowView) × Spells line (RowLine row) × (next d (RowLine row) ≡ Some e)
    → (e ≡ rows_draft e.rows) × IsRowsTo text after e.rows (n + 1)
more_taken text rest line after d e n is r cut shorter t =
    let new = row_new d e t.0 is t.2 in
    let more = rows_more text rest line after d.rows n t.0 r cut shorter t.1 new.0 in
    subst (λ (x : DraftView). (x ≡ rows_draft x.rows) × IsRowsTo text after x.rows (n + 1)) (sym new.1) (refl, more)

pub row_taken : (r : Result (Unit {0}) (OrMemory BadLine)) (old new : DraftView) (line : List ℕ) (row : RowView) → Takes r old (RowLine row) new → Spells line (RowLine row) → TakesRow r old line new
row_taken (Ok done) old new line row t s = (row, s, t)
row_taken (Err (Fault bad)) old new line row t s = λ m n. ap (next old) (spelled_once line (RowLine m) (RowLine row) n s) ∙ t.0
row_taken (Err Memory) old new line row t s = (row, s, t.1)

-- a row's line whose row could not be allocated
pub row_refused : (why : OrMemory BadLine) (d : DraftView) (line : List ℕ) (row : RowView) → Spells line (RowLine row) → TakesLine (Err why) d line d → TakesRow (Err why) d line d
row_refused (Fault bad) d line row s t = λ m n. t (RowLine m) n
row_refused Memory d line row s t = (row, s, subst (λ (l : LineView). IsSome (next d l)) (spelled_once line t.0 (RowLine row) t.1 s) t.3)

row_view : (said : Line) (row : RowView) → line_view said ≡ RowLine row → (own : RowView) × (said ≡ line.Row own)
row_view (line.Row own) row e = (own, refl)
row_view (line.Header weights) row e = absurd (no_row_is (HeaderLine weights) row refl e)
row_view (line.Hold hold) row e = absurd (no_row_is (HoldLine hold.id.now hold.cpus hold.value) row refl e)
row_view (line.Price price) row e = absurd (no_row_is (PriceLine price) row refl e)
row_view (line.Total total) row e = absurd (no_row_is (TotalLine total.weights total.total) row refl e)
row_view (line.Short id) row e = absurd (no_row_is (ShortLine id.now) row refl e)
row_view line.End row e = absurd (no_row_is EndLine row refl e)

-- another line than a row's
pub no_row : (d : DraftView) (text : List ℕ) (said : Line) → ((own : RowView) → said ≡ line.Row own → ⊥) → Spells text (line_view said) → (row : RowView) → Spells text (RowLine row) → next d (RowLine row) ≡ None
no_row d text said other s row t = let own = row_view said row (spelled_once text (line_view said) (RowLine row) s t) in absurd (other own.0 own.1)

pub not_true : (b : Bool) → true ≡ not b → false ≡ b
not_true true e = absurd (cc)
not_true false e = refl

pub not_false : (b : Bool) → false ≡ not b → true ≡ b
not_false true e = refl
not_false false e = absurd (cc)

-- where the text stands for rows, those were read, unless an allocation failed
pub is_problem_read : (text : List ℕ) (r : Result (List RowView) (OrMemory BadText)) → IfOk r (λ rows. IsProblemText text rows) → IfErr r (λ e. IsProblemError text e)
    → (rows : List RowView) → IsProblemText text rows → IsProblemRead r rows
is_problem_read text (Ok own) ok bad rows t = one_problem text own rows ok t
is_problem_read text (Err Memory) ok bad rows t = refl
is_problem_read text (Err (Fault n)) ok bad rows t = absurd (bad.no_text rows t)

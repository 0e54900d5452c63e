-- What stands behind the rows of a problem.
use Rattle.std.proofs.Common.{◌≡◌, ℕ, Bool, true, false, ◌++◌, List, [], ◌∷◌, map, refl, sym, ap, ◌∙◌, subst}
use Rattle.std.specs.List.{AllZip}
use Rattle.std.proofs.lemmas.Bool.{false≢true}
use Rattle.std.proofs.lemmas.List.{append_assoc, append_cancel_right}
use Rattle.std.specs.Prelude.{codes}
use Rattle.certificate.specs.RowView.{RowView}
use Rattle.certificate_text.specs.CertificateText.{HaveOwnIds}
use Rattle.certificate_text.specs.DraftView.{has_id}
use Rattle.certificate_text.specs.Line.{LineView, HeaderLine, RowLine, HoldLine, PriceLine, TotalLine, ShortLine, EndLine, Spells}
use Rattle.certificate_text.specs.ProblemError.{CanBeginProblem}
use Rattle.certificate_text.specs.ProblemText.{AreProblemLines, IsProblemText, problem_header, problem_lines}
use Rattle.certificate_text.proofs.RowIds.{has_id_from_new, new_after}
use Rattle.certificate_text.proofs.SpelledOnce.{spelled_once}
use Rattle.certificate_text.proofs.Zips.{zip_append, zip_once, zip_split}

-- a row's line, or another
abbrev is_row : LineView → Bool
is_row (HeaderLine weights) = false
is_row (RowLine row) = true
is_row (HoldLine id cpus value) = false
is_row (PriceLine price) = false
is_row (TotalLine weights total) = false
is_row (ShortLine id) = false
is_row EndLine = false

pub no_row_is : (l : LineView) (row : RowView) → is_row l ≡ false → l ≡ RowLine row → ⊥
no_row_is l row other e = false≢true (sym other ∙ ap is_row e)

pub no_end_is_row : (row : RowView) → EndLine ≡ RowLine row → ⊥
no_end_is_row row e = no_row_is EndLine row refl e

-- the row of a row's line
abbrev row_or : RowView → LineView → RowView
row_or other (RowLine row) = row
row_or other (HeaderLine weights) = other
row_or other (HoldLine id cpus value) = other
row_or other (PriceLine price) = other
row_or other (TotalLine weights total) = other
row_or other (ShortLine id) = other
row_or other EndLine = other

same_row : (r s : RowView) → RowLine r ≡ RowLine s → r ≡ s
same_row r s e = ap (row_or r) e

-- behind the lines of some rows of a problem stands the last line, or another row's
pub data Behind (rows all : List RowView) (l : LineView) (ms : List LineView) : Type 0 where
  Ended : l ≡ EndLine → ms ≡ [] → Behind rows all l ms
  Another : (row : RowView) (more : List RowView) → l ≡ RowLine row → all ≡ rows ++ row ∷ more → Behind rows all l ms

behind_more : (r : RowView) (rows all : List RowView) (l : LineView) (ms : List LineView) → Behind rows all l ms → Behind (r ∷ rows) (r ∷ all) l ms
behind_more r rows all l ms (Ended e f) = Ended e f
behind_more r rows all l ms (Another row more e f) = Another row more e (ap (λ x. r ∷ x) f)

behind_rows : (rows all : List RowView) (l : LineView) (ms : List LineView) → problem_lines all ≡ map RowLine rows ++ l ∷ ms → Behind rows all l ms
behind_rows [] [] l ms e =
    let first : EndLine ≡ l = cc in
    let rest : [] ≡ ms = cc in
    Ended (sym first) (sym rest)
behind_rows [] (r ∷ all) l ms e = let first : RowLine r ≡ l = cc in Another r all (sym first) refl
behind_rows (r ∷ rows) [] l ms e = let first : EndLine ≡ RowLine r = cc in absurd (no_end_is_row r first)
behind_rows (r ∷ rows) (s ∷ all) l ms e =
    let first : RowLine s ≡ RowLine r = cc in
    let rest : problem_lines all ≡ map RowLine rows ++ l ∷ ms = cc in
    subst (λ (t : RowView). Behind (r ∷ rows) (t ∷ all) l ms) (sym (same_row s r first)) (behind_more r rows all l ms (behind_rows rows all l ms rest))

-- the rows of a problem are not all of its lines
pub never_ended : (rows all : List RowView) → problem_lines all ≡ map RowLine rows → ⊥
never_ended [] [] e = absurd (cc)
never_ended [] (s ∷ all) e = absurd (cc)
never_ended (r ∷ rows) [] e = let first : EndLine ≡ RowLine r = cc in no_end_is_row r first
never_ended (r ∷ rows) (s ∷ all) e =
    let rest : problem_lines all ≡ map RowLine rows = cc in
    never_ended rows all rest

same_rows : (rows others : List RowView) → map RowLine rows ≡ map RowLine others → rows ≡ others
same_rows [] [] e = refl
same_rows [] (s ∷ others) e = absurd (cc)
same_rows (r ∷ rows) [] e = absurd (cc)
same_rows (r ∷ rows) (s ∷ others) e =
    let first : RowLine r ≡ RowLine s = cc in
    let rest : map RowLine rows ≡ map RowLine others = cc in
    let one : r ≡ s = same_row r s first in
    let more : rows ≡ others = same_rows rows others rest in
    cc

-- a problem that begins with the lines of some rows and one more
pub record Following (line : List ℕ) (rest : List (List ℕ)) (rows all : List RowView) : Type 0 where
  pub said : LineView
  pub more : List LineView
  pub spelled : Spells line said
  pub spelled_more : AllZip Spells rest more
  pub is : Behind rows all said more
  pub apart : HaveOwnIds all

pub following : (behind : List (List ℕ)) (line : List ℕ) (rest : List (List ℕ)) (rows all : List RowView) → AllZip Spells behind (map RowLine rows)
    → AreProblemLines (problem_header ∷ (behind ++ line ∷ rest)) all → Following line rest rows all
following behind line rest rows all spelled a =
    let own : behind ++ line ∷ rest ≡ a.behind = let e = a.lines_are in cc in
    let whole : AllZip Spells (behind ++ line ∷ rest) (problem_lines all) = subst (λ (k : List (List ℕ)). AllZip Spells k (problem_lines all)) (sym own) a.spelled in
    let split = zip_split Spells behind (line ∷ rest) (problem_lines all) whole in
    let same : split.front ≡ map RowLine rows = zip_once Spells spelled_once behind split.front (map RowLine rows) split.fronts spelled in
    let lines : problem_lines all ≡ map RowLine rows ++ split.back = subst (λ (ls : List LineView). problem_lines all ≡ ls ++ split.back) same split.whole in
    at split.back split.backs lines
  where
    at : (back : List LineView) → AllZip Spells (line ∷ rest) back → problem_lines all ≡ map RowLine rows ++ back → Following line rest rows all
    at [] h e = absurd h
    at (l ∷ ms) h e = record { said = l; more = ms; spelled = h.0; spelled_more = h.1; is = behind_rows rows all l ms e; apart = a.apart }

-- no problem begins with these rows and a line that is neither the last one nor that of a row with an id of its own
pub cannot_follow : (behind : List (List ℕ)) (line : List ℕ) (rows : List RowView) → AllZip Spells behind (map RowLine rows)
    → (line ≡ codes "end" → ⊥) → ((row : RowView) → Spells line (RowLine row) → has_id row.id rows ≡ true)
    → CanBeginProblem ((problem_header ∷ behind) ++ line ∷ []) → ⊥
cannot_follow behind line rows spelled no_end known can =
    let whole : (behind ++ line ∷ []) ++ can.0 ≡ behind ++ line ∷ can.0 = append_assoc behind (line ∷ []) can.0 in
    let lines : AreProblemLines (problem_header ∷ (behind ++ line ∷ can.0)) can.1 = subst (λ (k : List (List ℕ)). AreProblemLines (problem_header ∷ k) can.1) whole can.2 in
    let f = following behind line can.0 rows can.1 spelled lines in
    at f f.is
  where
    at : (f : Following line can.0 rows can.1) → Behind rows can.1 f.said f.more → ⊥
    at f (Ended e none) = no_end (subst (λ (l : LineView). Spells line l) e f.spelled)
    at f (Another row more e all) =
        let its : Spells line (RowLine row) = subst (λ (l : LineView). Spells line l) e f.spelled in
        let ids : HaveOwnIds (rows ++ row ∷ more) = subst (λ (k : List RowView). HaveOwnIds k) all f.apart in
        false≢true (sym (has_id_from_new row.id rows (new_after rows row more ids)) ∙ known row its)

-- nor does one go on behind its last line
pub nothing_behind : (behind : List (List ℕ)) (line : List ℕ) (rows : List RowView) → AllZip Spells behind (map RowLine rows)
    → CanBeginProblem ((problem_header ∷ (behind ++ codes "end" ∷ [])) ++ line ∷ []) → ⊥
nothing_behind behind line rows spelled can =
    let whole : ((behind ++ codes "end" ∷ []) ++ line ∷ []) ++ can.0 ≡ behind ++ codes "end" ∷ line ∷ can.0 =
    append_assoc (behind ++ codes "end" ∷ []) (line ∷ []) can.0 ∙ append_assoc behind (codes "end" ∷ []) (line ∷ can.0) in
    let lines : AreProblemLines (problem_header ∷ (behind ++ codes "end" ∷ line ∷ can.0)) can.1 =
    subst (λ (k : List (List ℕ)). AreProblemLines (problem_header ∷ k) can.1) whole can.2 in
    let f = following behind (codes "end") (line ∷ can.0) rows can.1 spelled lines in
    at f f.is
  where
    at : (f : Following (codes "end") (line ∷ can.0) rows can.1) → Behind rows can.1 f.said f.more → ⊥
    at f (Ended e none) = absurd (subst (λ (ms : List LineView). AllZip Spells (line ∷ can.0) ms) none f.spelled_more)
    at f (Another row more e all) =
        no_end_is_row row (spelled_once (codes "end") EndLine (RowLine row) refl (subst (λ (l : LineView). Spells (codes "end") l) e f.spelled))

-- some problem begins with the first line and those of rows of different ids
pub rows_begin : (behind : List (List ℕ)) (rows : List RowView) → AllZip Spells behind (map RowLine rows) → HaveOwnIds rows → AreProblemLines (problem_header ∷ (behind ++ codes "end" ∷ [])) rows
rows_begin behind rows spelled apart =
    let last : AllZip Spells (codes "end" ∷ []) (EndLine ∷ []) = (refl, tt) in
    record {
      behind = behind ++ codes "end" ∷ [];
      lines_are = refl;
      spelled = zip_append Spells behind (codes "end" ∷ []) (map RowLine rows) (EndLine ∷ []) spelled last;
      apart = apart;
    }

pub one_problem : (text : List ℕ) (rows others : List RowView) → IsProblemText text rows → IsProblemText text others → rows ≡ others
one_problem text rows others p q =
    let same : p.0 ≡ q.0 = append_cancel_right p.0 q.0 ([] ∷ []) (sym p.1 ∙ q.1) in
    let a = p.2.lines_are in
    let b = q.2.lines_are in
    let behind : p.2.behind ≡ q.2.behind = cc in
    let its : AllZip Spells p.2.behind (problem_lines others) = subst (λ (k : List (List ℕ)). AllZip Spells k (problem_lines others)) (sym behind) q.2.spelled in
    let lines : problem_lines rows ≡ problem_lines others = zip_once Spells spelled_once p.2.behind (problem_lines rows) (problem_lines others) p.2.spelled its in
    same_rows rows others (append_cancel_right (map RowLine rows) (map RowLine others) (EndLine ∷ []) lines)

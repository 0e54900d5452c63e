-- Rows of different ids.
use Rattle.std.proofs.Common.{◌≡◌, ◌≢◌, ℕ, zero, suc, ◌<◌, false, ◌++◌, List, [], ◌∷◌, length, get_or, refl, sym, ◌∙◌, arith, length-append}
use Rattle.std.specs.List.{AllPairs}
use Rattle.std.specs.Str.{bytes_eq}
use Rattle.std.proofs.lemmas.Bool.{false≢true, false_from_ne_true, or_from, or_parts}
use Rattle.std.proofs.lemmas.Slice.Eq.{bytes_eq-Decides}
use Rattle.std.proofs.lemmas.List.Quantifiers.{all_pairs_push}
use Rattle.std.proofs.lemmas.List.{get_or_append_left}
use Rattle.std.proofs.Math.Seq.{get_or-append_seam}
use Rattle.certificate.specs.RowView.{RowView}
use Rattle.certificate_text.specs.DraftView.{has_id}

-- the id is none of the rows'
abbrev pub IsNew : List ℕ → List RowView → Type 0
IsNew id rows = (k : ℕ) (d : RowView) → k < length rows → (get_or rows k d).id ≢ id

abbrev pub Differ : RowView → RowView → Type 0
Differ r s = r.id ≢ s.id

pub new_from_has_id : (id : List ℕ) (rows : List RowView) → has_id id rows ≡ false → IsNew id rows
new_from_has_id id [] h k d lt e = absurd (omega arith)
new_from_has_id id (r ∷ rows) h zero d lt e =
    let no_row = (or_parts (bytes_eq id r.id) (has_id id rows) h).0 in
    let dec = bytes_eq-Decides id r.id in
    false≢true (sym no_row ∙ dec.1 (sym e))
new_from_has_id id (r ∷ rows) h (suc k) d lt e = new_from_has_id id rows (or_parts (bytes_eq id r.id) (has_id id rows) h).1 k d (omega arith) e

pub has_id_from_new : (id : List ℕ) (rows : List RowView) → IsNew id rows → has_id id rows ≡ false
has_id_from_new id [] h = refl
has_id_from_new id (r ∷ rows) h =
    let dec = bytes_eq-Decides id r.id in
    or_from (bytes_eq id r.id) (has_id id rows) (false_from_ne_true (bytes_eq id r.id) (λ e. h 0 r (omega arith) (sym (dec.0 e))))
    (has_id_from_new id rows (λ k d lt. h (suc k) d (omega arith)))

pub differ_more : (rows : List RowView) (row : RowView) → AllPairs Differ rows → IsNew row.id rows → AllPairs Differ (rows ++ row ∷ [])
differ_more rows row h new = all_pairs_push Differ rows row h new

-- each row is new after those before it
pub new_after : (done : List RowView) (row : RowView) (more : List RowView) → AllPairs Differ (done ++ row ∷ more) → IsNew row.id done
new_after done row more h k d lt =
    let long : length done < length (done ++ row ∷ more) = simp length-append (omega arith) in
    let apart = h k (length done) d lt long in
    let front : get_or (done ++ row ∷ more) k d ≡ get_or done k d = get_or_append_left done (row ∷ more) d k lt in
    let seam : get_or (done ++ row ∷ more) (length done) d ≡ row = get_or-append_seam done row more d in
    rw (front, seam) at apart

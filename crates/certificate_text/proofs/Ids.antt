-- What the bytes of an id are, and which ids a list of rows has.
use Rattle.std.proofs.Common.{◌≡◌, ℕ, ◌<◌, Bool, true, false, ◌||◌, cond, List, [], ◌∷◌, ◌++◌, Bor, length, get_or, refl, sym, ap, ◌∙◌, arith}
use Rattle.std.specs.List.{list_any, All}
use Rattle.std.specs.Str.{IsUtf8, bytes_eq}
use Rattle.std.specs.BTreeSet as sorted
use Rattle.std.specs.BTreeSet.{BTreeSet}
use Rattle.std.specs.Cmp.Lexicographic.{slice_cmp}
use Rattle.std.specs.Ordering.{nat_cmp}
use Rattle.std.specs.Bool.{one_answer}
use Rattle.std.proofs.lemmas.Str.{IsUtf8-from_ascii}
use Rattle.std.proofs.lemmas.Str.Ascii.{IsAscii-from_all}
use Rattle.std.proofs.lemmas.List.Folds.{list_any-append, list_all_at}
use Rattle.std.proofs.lemmas.Slice.Eq.{bytes_eq-Decides}
use Rattle.std.proofs.lemmas.Map.Text.{is_eq-slice_cmp}
use Rattle.certificate_text.specs.IdWord.{is_id_letter, IsId}
use Rattle.certificate.specs.RowView.{RowView}
use Rattle.certificate_text.specs.DraftRead.{keeps_id}
use Rattle.certificate_text.specs.DraftView.{has_id}
use Rattle.std.proofs.Math.Bool.{or-false}

letter_is_ascii : (b : ℕ) → is_id_letter b ≡ true → b < 128
letter_is_ascii b h = grind arith

pub IsId-All : (word : List ℕ) → IsId word → All (λ b. is_id_letter b ≡ true) word
IsId-All word h = λ k d within. at (is_id_letter (get_or word k d)) k d within refl where
  at : (b : Bool) (k d : ℕ) → k < length word → is_id_letter (get_or word k d) ≡ b → is_id_letter (get_or word k d) ≡ true
  at true k d within e = e
  at false k d within e = absurd (let no_letter = list_all_at is_id_letter word k d within e in cc (h.bytes, no_letter))

pub IsUtf8-id : (word : List ℕ) → IsId word → IsUtf8 word
IsUtf8-id word h = IsUtf8-from_ascii word (IsAscii-from_all word (λ k d within. letter_is_ascii (get_or word k d) (IsId-All word h k d within)))

pub bytes_eq_sym : (xs ys : List ℕ) → bytes_eq xs ys ≡ bytes_eq ys xs
bytes_eq_sym xs ys =
    let there = bytes_eq-Decides xs ys in
    let back = bytes_eq-Decides ys xs in
    one_answer {P = xs ≡ ys} (bytes_eq xs ys) (bytes_eq ys xs) there (λ e. sym (back.0 e), λ e. back.1 (sym e))

cond-true : (a b : Bool) → cond a true b ≡ (b || a)
cond-true true true = refl
cond-true true false = refl
cond-true false true = refl
cond-true false false = refl

pub has_id_more : (id : List ℕ) (rows : List RowView) (row : RowView) → has_id id (rows ++ row ∷ []) ≡ (has_id id rows || bytes_eq id row.id)
has_id_more id rows row =
    list_any-append (λ r. bytes_eq id r.id) rows (row ∷ []) ∙ ap (λ b. list_any (λ r. bytes_eq id r.id) rows || b) (or-false (bytes_eq id row.id))

-- a key more in the set, and its row more in the list
pub ids_more : (rows : List RowView) (row : RowView) (key : Bor (List ℕ)) (s n : BTreeSet (Bor (List ℕ)))
    → sorted.UpdatesBy (λ x y. slice_cmp nat_cmp x.now y.now) (λ k. slice_cmp nat_cmp key.now k.now) s n true → key.now ≡ row.id
    → ((id : List ℕ) → keeps_id s id ≡ has_id id rows) → (id : List ℕ) → keeps_id n id ≡ has_id id (rows ++ row ∷ [])
ids_more rows row key s n updates key_is known id =
    updates.0 (record key { now = id }) ∙ ap (λ b. cond b true (keeps_id s id)) (is_eq-slice_cmp key.now id)
    ∙ cond-true (bytes_eq key.now id) (keeps_id s id)
    ∙ rw (key_is, known id, bytes_eq_sym row.id id) (sym (has_id_more id rows row))

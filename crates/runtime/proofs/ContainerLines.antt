-- The lines of an outcome, one after another.
use Rattle.std.proofs.Common.{◌≡◌, ℕ, suc, ◌+◌, ◌<◌, List, ◌∷◌, ◌++◌, length, drop, drop-cons, get_or, refl, sym, ap, ◌∙◌, arith, codes}
use Rattle.std.specs.Prelude.{zip}
use Rattle.std.specs.List.{flat_map}
use Rattle.std.proofs.lemmas.Option.{slice_get_read}
use Rattle.cpu_set.specs.Ids.{Ids}
use Rattle.certificate.specs.RowView.{RowView}
use Rattle.runtime.specs.OutcomeTexts.{hold_line, member_line}

-- an element that was read, and those after it
drop_at : {A : Type 0} (xs : List A) (k : ℕ) (x : A) → k < length xs → x ≡ get_or xs k x → drop k xs ≡ x ∷ drop (k + 1) xs
drop_at xs k x below e =
    let next : suc k ≡ k + 1 = omega arith in
    drop-cons xs k x below ∙ ap (λ y. y ∷ drop (suc k) xs) (sym e) ∙ ap (λ n. x ∷ drop n xs) next

-- the lines of a plan from one row on begin with that row's
pub hold_next : (rows : List RowView) (sets : List Ids) (k : ℕ) (row : RowView) (s : Ids) → k < length rows → k < length sets → row ≡ get_or rows k row → s ≡ get_or sets k s
    → flat_map hold_line (zip (drop k rows) (drop k sets)) ≡ hold_line (row, s) ++ flat_map hold_line (zip (drop (k + 1) rows) (drop (k + 1) sets))
hold_next rows sets k row s a b e f =
    let r : drop k rows ≡ row ∷ drop (k + 1) rows = drop_at rows k row a e in
    let t : drop k sets ≡ s ∷ drop (k + 1) sets = drop_at sets k s b f in
    rw (r, t) refl

-- and so do those of a shortage
pub member_next : (rows : List RowView) (members : List ℕ) (i k : ℕ) (row : RowView) → i < length members → k ≡ get_or members i k → k < length rows → row ≡ get_or rows k row
    → flat_map (member_line rows) (drop i members) ≡ (codes "member " ++ (row.id ++ codes "\n")) ++ flat_map (member_line rows) (drop (i + 1) members)
member_next rows members i k row a e b f =
    let m : drop i members ≡ k ∷ drop (i + 1) members = drop_at members i k a e in
    let found = slice_get_read rows (length rows) k row refl b f in
    rw (m, found) refl

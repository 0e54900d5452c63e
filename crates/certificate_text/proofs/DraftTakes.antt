-- Which lines a draft takes, by tests.
use Rattle.std.proofs.Common.{◌≡◌, ℕ, zero, suc, ◌+◌, Bool, true, false, not, ◌&&◌, cond, ◌++◌, List, [], ◌∷◌, drop, Option, Some, None, refl, sym, ap, ◌∙◌, subst, arith}
use Rattle.std.proofs.lemmas.Bool.{cond-true, cond-false}
use Rattle.std.specs.Prelude.{slice_get, is_some, IsSome}
use Rattle.std.specs.Str.{bytes_eq}
use Rattle.std.proofs.lemmas.Option.{none-some, same_Some}
use Rattle.faults.specs.TestLaws.{left_over}
use Rattle.certificate.specs.RowView.{RowView}
use Rattle.certificate_text.specs.declared.stage.Stage.{Stage}
use Rattle.certificate_text.specs.declared.stage.Stage.TheVariants.{Start, Body, Totalled, Planned, Named, Shown}
use Rattle.certificate_text.specs.Line.{RowLine, ShortLine}
use Rattle.certificate_text.specs.DraftView.{DraftView, has_id, has_no_plan, number_in, number_of, takes_members, takes_members_at, takes_row, takes_row_at, with_member, next_in_body, next_at, next}

old : (a b : Bool) → b ≡ true → (a && not b) ≡ false
old true true h = refl
old false true h = refl
old a false h = absurd (grind arith)

pub row_once : (d : DraftView) (row : RowView) → d.stage ≡ Body → has_id row.id d.rows ≡ true → next d (RowLine row) ≡ None
row_once d row b h =
    let none : next_in_body d (RowLine row) ≡ None = cond-false (has_no_plan d && not (has_id row.id d.rows)) (Some (record d { rows = d.rows ++ row ∷ [] })) None (old (has_no_plan d) (has_id row.id d.rows) h) in
    subst (λ (s : Stage). next_at s d (RowLine row) ≡ None) (sym b) none

pub row_more : (d : DraftView) (row : RowView) → d.stage ≡ Body → has_no_plan d ≡ true → has_id row.id d.rows ≡ false
    → next d (RowLine row) ≡ Some (record d { rows = d.rows ++ row ∷ [] })
row_more d row b n h =
    let e : DraftView = record d { rows = d.rows ++ row ∷ [] } in
    let some : next_in_body d (RowLine row) ≡ Some e = cond-true (has_no_plan d && not (has_id row.id d.rows)) (Some e) None (left_over (has_no_plan d) (has_id row.id d.rows) n h) in
    subst (λ (s : Stage). next_at s d (RowLine row) ≡ Some e) (sym b) some

pub is_some_of : {A : Type 0} (o : Option A) (x : A) → o ≡ Some x → IsSome o
is_some_of o x h = ap is_some h

-- a row can follow exactly where one of its id can
pub row_some : (d : DraftView) (row : RowView) → takes_row row.id d ≡ true → IsSome (next d (RowLine row))
row_some d row h = at d.stage refl h where
  e : DraftView
  e = record d { rows = d.rows ++ row ∷ [] }

  at : (s : Stage) → d.stage ≡ s → takes_row_at s row.id d ≡ true → IsSome (next_at s d (RowLine row))
  at Body b t = is_some_of (next_at Body d (RowLine row)) e (cond-true (has_no_plan d && not (has_id row.id d.rows)) (Some e) None t)
  at Start b t = absurd (grind arith)
  at Named b t = absurd (grind arith)
  at Totalled b t = absurd (grind arith)
  at Planned b t = absurd (grind arith)
  at Shown b t = absurd (grind arith)

pub row_none : (d : DraftView) (row : RowView) → takes_row row.id d ≡ false → next d (RowLine row) ≡ None
row_none d row h = at d.stage refl h where
  at : (s : Stage) → d.stage ≡ s → takes_row_at s row.id d ≡ false → next_at s d (RowLine row) ≡ None
  at Body b t = cond-false (has_no_plan d && not (has_id row.id d.rows)) (Some (record d { rows = d.rows ++ row ∷ [] })) None t
  at Start b t = refl
  at Named b t = refl
  at Totalled b t = refl
  at Planned b t = refl
  at Shown b t = refl

-- a member is taken where its id is found
pub member_next : (d : DraftView) (id : List ℕ) → takes_members d ≡ true → next d (ShortLine id) ≡ with_member d (number_of id d)
member_next d id h = at d.stage refl h where
  at : (s : Stage) → d.stage ≡ s → takes_members_at s d ≡ true → next_at s d (ShortLine id) ≡ with_member d (number_of id d)
  at Body b t = cond-true (has_no_plan d) (with_member d (number_of id d)) None t
  at Named b t = refl
  at Start b t = absurd (grind arith)
  at Totalled b t = absurd (grind arith)
  at Planned b t = absurd (grind arith)
  at Shown b t = absurd (grind arith)

pub no_member_next : (d : DraftView) (id : List ℕ) → takes_members d ≡ false → next d (ShortLine id) ≡ None
no_member_next d id h = at d.stage refl h where
  at : (s : Stage) → d.stage ≡ s → takes_members_at s d ≡ false → next_at s d (ShortLine id) ≡ None
  at Body b t = cond-false (has_no_plan d) (with_member d (number_of id d)) None t
  at Named b t = absurd (grind arith)
  at Start b t = refl
  at Totalled b t = refl
  at Planned b t = refl
  at Shown b t = refl

drop_at : (rows : List RowView) (n m : ℕ) (row : RowView) → slice_get rows n ≡ Some row → m ≡ n + 1 → drop n rows ≡ row ∷ drop m rows
drop_at [] n m row h e = absurd (none-some row h)
drop_at (r ∷ rows) zero zero row h e = absurd (omega arith)
drop_at (r ∷ rows) zero (suc zero) row h e = let same : r ≡ row = same_Some r row h in ap (λ x. x ∷ rows) same
drop_at (r ∷ rows) zero (suc (suc m)) row h e = absurd (omega arith)
drop_at (r ∷ rows) (suc n) zero row h e = absurd (omega arith)
drop_at (r ∷ rows) (suc n) (suc m) row h e = drop_at rows n m row h (omega arith)

number_at : (id : List ℕ) (rows : List RowView) (n : ℕ) (row : RowView) → slice_get rows n ≡ Some row
    → number_in id n (drop n rows) ≡ cond (bytes_eq id row.id) (Some n) (number_in id (n + 1) (drop (n + 1) rows))
number_at id rows n row h = ap (number_in id n) (drop_at rows n (n + 1) row h refl)

-- the row here has the id, or the search goes on
pub number_here : (id : List ℕ) (rows : List RowView) (n : ℕ) (row : RowView) → slice_get rows n ≡ Some row → bytes_eq id row.id ≡ true
    → number_in id n (drop n rows) ≡ Some n
number_here id rows n row h e = number_at id rows n row h ∙ cond-true (bytes_eq id row.id) (Some n) (number_in id (n + 1) (drop (n + 1) rows)) e

pub number_later : (id : List ℕ) (rows : List RowView) (n : ℕ) (row : RowView) → slice_get rows n ≡ Some row → bytes_eq id row.id ≡ false
    → number_in id n (drop n rows) ≡ number_in id (n + 1) (drop (n + 1) rows)
number_later id rows n row h e = number_at id rows n row h ∙ cond-false (bytes_eq id row.id) (Some n) (number_in id (n + 1) (drop (n + 1) rows)) e

-- What a proposal says, clause by clause.
use Rattle.std.proofs.Common.{List, Option, Some, None, IfSome, Result, IfOk, Ok, Err}
use Rattle.std.specs.Prelude.{IsTrue, length, nat_le}
use Rattle.std.specs.List.{list_all}
use Rattle.certificate.specs.RowView.{RowView}
use Rattle.certificate.specs.Limits.{row_fits, rows_fit}
use Rattle.certificate.specs.TestLaws.{true_right}
use Rattle.certificate.specs.declared.limits.TheConstants.{MAX_ROWS}

pub each_row_fits : (rows : List RowView) → IsTrue (rows_fit rows) → IsTrue (list_all row_fits rows)
unfolding rows_fit
each_row_fits rows fit = true_right (nat_le (length rows) MAX_ROWS) (list_all row_fits rows) fit

-- what follows from a proposal, if there is one
pub if_found : {A E : Type 0} {P Q : A → Type 0} → (r : Result (Option A) E) → ((a : A) → P a → Q a) → IfOk r (λ found. IfSome found P) → IfOk r (λ found. IfSome found Q)
if_found (Ok (Some a)) follows h = follows a h
if_found (Ok None) follows h = tt
if_found (Err e) follows h = tt

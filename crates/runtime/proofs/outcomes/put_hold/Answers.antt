use Rattle.std.proofs.Common.{◌≡◌, ap, ◌∙◌}
use Rattle.std.proofs.lemmas.Result.{err_from_is_err_and}
use Rattle.certificate.specs.RowView.{RowView}
use Rattle.byte_output.specs.SendingLemmas.{SendsFront-more, SendsFront-then, Writes-then}
use Rattle.runtime.proofs.outcomes.put_hold.Goals as goal

pub returns-in_err-put_all : goal.returns-in_err-put_all
returns-in_err-put_all g c =
    let fault = err_from_is_err_and c.from_residual.result c.from_residual.ensures.1 in
    let id : c.as_bytes.result.now ≡ c.args.row.now.id = c.as_bytes.ensures.value ∙ ap (λ (r : RowView). r.id) c.row.view_is in
    rw fault.1 (SendsFront-more _ _ _ _ (rw (c.as_slice.ensures, id, c.as_slice-2.ensures) at c.in_err-put_all.ensures))

pub returns-in_err-put_set : goal.returns-in_err-put_set
returns-in_err-put_set g c =
    let fault = err_from_is_err_and c.from_residual-in_err-put_set.result c.from_residual-in_err-put_set.ensures.1 in
    let id : c.as_bytes.result.now ≡ c.args.row.now.id = c.as_bytes.ensures.value ∙ ap (λ (r : RowView). r.id) c.row.view_is in
    rw fault.1 (SendsFront-then _ _ _ _ _ (rw (c.as_slice.ensures, id, c.as_slice-2.ensures) at c.in_ok-put_all.ensures) (SendsFront-more _ _ _ _ c.in_err-put_set.ensures))

pub returns : goal.returns
returns g c =
    let id : c.as_bytes.result.now ≡ c.args.row.now.id = c.as_bytes.ensures.value ∙ ap (λ (r : RowView). r.id) c.row.view_is in
    Writes-then _ _ _ c.put.result _ _ (rw (c.as_slice.ensures, id, c.as_slice-2.ensures) at c.in_ok-put_all.ensures)
    (Writes-then _ _ _ c.put.result _ _ c.in_ok-put_set.ensures c.put.ensures)

-- The title, the arguments, and the line feed.
use Rattle.std.proofs.Common.{◌++◌, List, ℕ, append-nil, codes}
use Rattle.std.proofs.lemmas.Result.{err_from_is_err_and}
use Rattle.byte_output.specs.SendingLemmas.{SendsFront-more, SendsFront-then, Writes-then}
use Rattle.program_io.specs.RefusalLine.{title_of}
use Rattle.program_io.proofs.refusal.Refusal.write.Goals as goal

pub returns-in_err-put_all : goal.returns-in_err-put_all
returns-in_err-put_all g c =
    let fault = err_from_is_err_and c.from_residual.result c.from_residual.ensures.1 in
    let title : List ℕ = codes "refused " ++ title_of c.args.self in
    rw fault.1 (SendsFront-more _ _ title _ (rw (c.as_slice.ensures, c.as_bytes.ensures.value, c.title.ensures, append-nil (title_of c.args.self)) at c.in_err-put_all.ensures))

pub returns-in_err-write : goal.returns-in_err-write
returns-in_err-write g c =
    let fault = err_from_is_err_and c.from_residual-in_err-write.result c.from_residual-in_err-write.ensures.1 in
    let title : List ℕ = codes "refused " ++ title_of c.args.self in
    rw fault.1 (SendsFront-then _ _ _ title _ (rw (c.as_slice.ensures, c.as_bytes.ensures.value, c.title.ensures, append-nil (title_of c.args.self)) at c.in_ok-put_all.ensures)
    (SendsFront-more _ _ _ _ (rw c.arguments.ensures at c.in_err-write.ensures)))

pub returns : goal.returns
returns g c =
    let title : List ℕ = codes "refused " ++ title_of c.args.self in
    Writes-then _ _ _ c.put.result title _ (rw (c.as_slice.ensures, c.as_bytes.ensures.value, c.title.ensures, append-nil (title_of c.args.self)) at c.in_ok-put_all.ensures)
    (Writes-then _ _ _ c.put.result _ _ (rw c.arguments.ensures at c.in_ok-write.ensures) c.put.ensures)

-- The title, the arguments, and the line feed.
use Rattle.std.proofs.Common.{◌++◌, List, ℕ, append-nil, codes}
use Rattle.std.proofs.lemmas.Result.{err_from_is_err_and}
use Rattle.byte_output.specs.SendingLemmas.{SendsFront-more, SendsFront-then, Writes-then}
use Rattle.runtime.specs.RefusalLine.{arguments_of, title_of}
use Rattle.runtime.proofs.refusal.Refusal.write.Goals as goal

pub returns-in_err-put_all : goal.returns-in_err-put_all
returns-in_err-put_all g c =
    let fault = err_from_is_err_and c.from_residual.result c.from_residual.ensures.1 in
    let title : List ℕ = codes "refused " ++ title_of c.args.self in
    rw fault.1 (SendsFront-more _ _ title (arguments_of c.args.self ++ codes "\n") (rw (c.as_slice.ensures, c.as_bytes.ensures.value, c.title.ensures, append-nil (title_of c.args.self)) at c.in_err-put_all.ensures))

pub returns-in_err-write_arguments : goal.returns-in_err-write_arguments
returns-in_err-write_arguments g c =
    let fault = err_from_is_err_and c.from_residual-in_err-write_arguments.result c.from_residual-in_err-write_arguments.ensures.1 in
    let title : List ℕ = codes "refused " ++ title_of c.args.self in
    rw fault.1 (SendsFront-then _ _ _ title (arguments_of c.args.self ++ codes "\n") (rw (c.as_slice.ensures, c.as_bytes.ensures.value, c.title.ensures, append-nil (title_of c.args.self)) at c.in_ok-put_all.ensures)
    (SendsFront-more _ _ (arguments_of c.args.self) (codes "\n") c.in_err-write_arguments.ensures))

pub returns : goal.returns
returns g c =
    let title : List ℕ = codes "refused " ++ title_of c.args.self in
    Writes-then _ _ _ c.put.result title (arguments_of c.args.self ++ codes "\n") (rw (c.as_slice.ensures, c.as_bytes.ensures.value, c.title.ensures, append-nil (title_of c.args.self)) at c.in_ok-put_all.ensures)
    (Writes-then _ _ _ c.put.result (arguments_of c.args.self) (codes "\n") c.in_ok-write_arguments.ensures c.put.ensures)

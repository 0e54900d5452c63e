use Rattle.std.proofs.Common.{◌++◌, ℕ, List, codes}
use Rattle.std.proofs.lemmas.Result.{err_from_is_err_and}
use Rattle.byte_output.specs.SendingLemmas.{SendsFront-more, SendsFront-then, Writes-then}
use Rattle.runtime.specs.AnswerTexts.{both_text}
use Rattle.runtime.proofs.answers.put_sets.Goals as goal

pub returns-in_err-put_both : goal.returns-in_err-put_both
returns-in_err-put_both g c =
    let fault = err_from_is_err_and c.from_residual.result c.from_residual.ensures.1 in
    let sets = c.args.sets.now in
    rw fault.1 (SendsFront-more _ _ (both_text (codes "cpus ") sets.cpus sets.effective_cpus) (both_text (codes " mems ") sets.mems sets.effective_mems ++ codes "\n") c.in_err-put_both.ensures)

pub returns-in_err-put_both-2 : goal.returns-in_err-put_both-2
returns-in_err-put_both-2 g c =
    let fault = err_from_is_err_and c.from_residual-in_err-put_both-2.result c.from_residual-in_err-put_both-2.ensures.1 in
    let sets = c.args.sets.now in
    let mems : List ℕ = both_text (codes " mems ") sets.mems sets.effective_mems in
    rw fault.1 (SendsFront-then _ _ _ (both_text (codes "cpus ") sets.cpus sets.effective_cpus) (mems ++ codes "\n") c.in_ok-put_both.ensures
    (SendsFront-more _ _ mems (codes "\n") c.in_err-put_both-2.ensures))

pub returns : goal.returns
returns g c =
    let sets = c.args.sets.now in
    let mems : List ℕ = both_text (codes " mems ") sets.mems sets.effective_mems in
    Writes-then _ _ _ c.put.result (both_text (codes "cpus ") sets.cpus sets.effective_cpus) (mems ++ codes "\n") c.in_ok-put_both.ensures
    (Writes-then _ _ _ c.put.result mems (codes "\n") c.in_ok-put_both-2.ensures c.put.ensures)

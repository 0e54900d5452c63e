use Rattle.std.proofs.Common.{◌++◌}
use Rattle.std.proofs.lemmas.Result.{err_from_is_err_and}
use Rattle.byte_output.specs.SendingLemmas.{SendsFront-more, SendsFront-then, Writes-then}
use Rattle.runtime.specs.OutcomeTexts.{end_lines, first_line, last_lines}
use Rattle.runtime.proofs.NamedLines.{named_in_place, named_told}
use Rattle.runtime.proofs.outcomes.put_outcome.Goals as goal

pub put_named-requires : goal.put_named-requires
put_named-requires g c = named_in_place c.args.node.now c.named.result c.named.ensures

pub returns-in_err-put_first : goal.returns-in_err-put_first
returns-in_err-put_first g c =
    let fault = err_from_is_err_and c.from_residual.result c.from_residual.ensures.1 in
    let n = c.args.node.now in
    rw fault.1 (SendsFront-more _ _ (first_line c.args.outcome.now) (last_lines n.machine n.last ++ end_lines n.pool c.args.outcome.now) c.in_err-put_first.ensures)

pub returns-in_err-put_named : goal.returns-in_err-put_named
returns-in_err-put_named g c =
    let fault = err_from_is_err_and c.from_residual-in_err-put_named.result c.from_residual-in_err-put_named.ensures.1 in
    let n = c.args.node.now in
    rw fault.1 (SendsFront-then _ _ _ (first_line c.args.outcome.now) (last_lines n.machine n.last ++ end_lines n.pool c.args.outcome.now) c.in_ok-put_first.ensures
    (SendsFront-more _ _ (last_lines n.machine n.last) (end_lines n.pool c.args.outcome.now) (rw (named_told c.args.node.now c.named.result c.named.ensures) at c.in_err-put_named.ensures)))

pub returns : goal.returns
returns g c =
    let n = c.args.node.now in
    Writes-then _ _ _ c.put_last.result (first_line c.args.outcome.now) (last_lines n.machine n.last ++ end_lines n.pool c.args.outcome.now) c.in_ok-put_first.ensures
    (Writes-then _ _ _ c.put_last.result (last_lines n.machine n.last) (end_lines n.pool c.args.outcome.now) (rw (named_told c.args.node.now c.named.result c.named.ensures) at c.in_ok-put_named.ensures)
    (rw c.pool.ensures at c.put_last.ensures))

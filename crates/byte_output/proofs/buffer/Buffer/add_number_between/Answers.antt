use Rattle.std.proofs.Common.{decimal, ◌++◌}
use Rattle.std.proofs.lemmas.Result.{err_from_is_err_and}
use Rattle.byte_output.specs.GatheringLemmas.{fails_more, fails_then, gathers_then}
use Rattle.byte_output.proofs.buffer.Buffer.add_number_between.Goals as goal

pub returns-in_err-add : goal.returns-in_err-add
returns-in_err-add g c =
    let p = err_from_is_err_and c.from_residual.result c.from_residual.ensures.1 in
    rw p.1 (fails_more _ _ c.args.self.now c.args.before.now (decimal c.args.number ++ c.args.after.now) c.in_err-add.ensures)

pub returns-in_err-add_number : goal.returns-in_err-add_number
returns-in_err-add_number g c =
    let p = err_from_is_err_and c.from_residual-in_err-add_number.result c.from_residual-in_err-add_number.ensures.1 in
    rw p.1 (fails_then _ _ _ c.args.self.now _ c.args.before.now (decimal c.args.number ++ c.args.after.now) c.in_ok-add.ensures
    (fails_more _ _ _ (decimal c.args.number) c.args.after.now c.in_err-add_number.ensures))

pub returns : goal.returns
returns g c =
    gathers_then _ _ _ c.args.self.now _ _ c.add-2.result c.args.before.now (decimal c.args.number ++ c.args.after.now) c.in_ok-add.ensures
    (gathers_then _ _ _ _ _ _ c.add-2.result (decimal c.args.number) c.args.after.now c.in_ok-add_number.ensures c.add-2.ensures)

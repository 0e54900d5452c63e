use Rattle.std.proofs.lemmas.Result.{err_from_is_err_and}
use Rattle.byte_output.specs.GatheringLemmas.{fails_more, fails_then, gathers_then}
use Rattle.certificate_text.proofs.Texts.{text_of-shortage}
use Rattle.certificate_text.proofs.HeldItems.{on_ok}
use Rattle.certificate_text.proofs.writing.add_shortage.Goals as goal

pub returns-in_err-add_head-clause-written : goal.returns-in_err-add_head-clause-written
returns-in_err-add_head-clause-written g c =
    let p = err_from_is_err_and c.from_residual.result c.from_residual.ensures.1 in
    rw (p.1, text_of-shortage c.args.rows.now c.args.members.now c.args.weights) (fails_more _ _ _ _ _ c.in_err-add_head.ensures.written)

pub returns-in_err-add_members-clause-written : goal.returns-in_err-add_members-clause-written
returns-in_err-add_members-clause-written g c =
    let p = err_from_is_err_and c.from_residual-in_err-add_members.result c.from_residual-in_err-add_members.ensures.1 in
    rw (p.1, text_of-shortage c.args.rows.now c.args.members.now c.args.weights) (fails_then _ _ _ _ _ _ _ c.in_ok-add_head.ensures.written (fails_more _ _ _ _ _ c.in_err-add_members.ensures))

pub returns-clause-written : goal.returns-clause-written
returns-clause-written g c =
    rw (text_of-shortage c.args.rows.now c.args.members.now c.args.weights)
    (gathers_then _ _ _ _ _ _ c.add.result _ _ c.in_ok-add_head.ensures.written (gathers_then _ _ _ _ _ _ c.add.result _ _ c.in_ok-add_members.ensures c.add.ensures))

pub returns-clause-held : goal.returns-clause-held
returns-clause-held g c = on_ok _ c.add.result c.in_ok-add_head.ensures.held

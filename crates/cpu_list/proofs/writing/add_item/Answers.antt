use Rattle.std.proofs.Common.{[], ◌∷◌}
use Rattle.std.proofs.lemmas.Result.{err_from_is_err_and}
use Rattle.cpu_list.specs.CanonicalList.{range_text}
use Rattle.byte_output.specs.GatheringLemmas.{fails_more, gathers_then}
use Rattle.cpu_list.proofs.writing.add_item.Goals as goal
use Rattle.cpu_list.proofs.writing.add_item.Goals.{then-is_behind+in_ok-add, else-is_behind}

pub returns-in_err-add : goal.returns-in_err-add
returns-in_err-add g c =
    let p = err_from_is_err_and c.from_residual.result c.from_residual.ensures.1 in
    rw (p.1, c.if-is_behind.true) (fails_more _ _ c.args.buffer.now (44 ∷ []) (range_text (c.args.first, c.args.last)) c.in_err-add.ensures)

pub returns : goal.returns
returns g c = elim c.if-is_behind.branch [
  | then-is_behind+in_ok-add w ↦ rw w.if-is_behind.true (gathers_then _ _ _ _ _ _ c.add_range.result (44 ∷ []) (range_text (c.args.first, c.args.last)) w.in_ok-add.ensures (rw (w.buffer-is, w.w-is) at c.add_range.ensures))
  | else-is_behind w ↦ rw w.if-is_behind.false (rw (w.buffer-is, w.w-is) at c.add_range.ensures)
]

use Rattle.std.proofs.Common.{ap, ◌++◌}
use Rattle.std.proofs.lemmas.Result.{err_from_is_err_and}
use Rattle.byte_output.specs.SendingLemmas.{HasSent-none}
use Rattle.byte_output.specs.GatheringLemmas.{gathers_next, fails_next}
use Rattle.cpu_list.proofs.SetTexts.{text_whole, text_left}
use Rattle.cpu_list.proofs.writing.add_list.Goals as goal

pub loop-first-init : goal.loop-first-init
loop-first-init g c = (
  tt,
  tt,
  HasSent-none _ _ _ (ap (λ text. c.args.buffer.now ++ text) (rw (c.into_iter-first-iterator.ensures.into_iter_gives, c.of-first-items.ensures) (text_whole _))),
)

pub returns-in_err-add_item : goal.returns-in_err-add_item
returns-in_err-add_item g c =
    let p = err_from_is_err_and c.from_residual.result c.from_residual.ensures.1 in
    rw p.1 (fails_next _ _ _ _ _ _ _ _ _ c.loop-first.invariant.2 (text_left _ _ _ _ c.in-Some.ensures.steps) c.in_err-add_item.ensures)

pub loop-first-preserved : goal.loop-first-preserved
loop-first-preserved g c = (
  tt,
  tt,
  gathers_next _ _ _ _ _ _ _ _ _ c.loop-first.invariant.2 (text_left _ _ _ _ c.in-Some.ensures.steps) c.in_ok-add_item.ensures,
)

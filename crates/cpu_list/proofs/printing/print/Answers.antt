use Rattle.std.proofs.Common.{[], ◌∷◌, refl}
use lib.Utf8.{encode}
use Rattle.cpu_list.proofs.Printed.{printed_more}
use Rattle.cpu_list.proofs.SetTexts.{text_whole, text_left}
use Rattle.cpu_list.proofs.printing.print.Goals as goal

pub loop-first-init : goal.loop-first-init
loop-first-init c = (
  tt,
  tt,
  ([], (refl, refl)),
  rw (c.new-text.ensures.bytes, c.into_iter-first-iterator.ensures.into_iter_gives, c.of-first-items.ensures) (text_whole _),
)

pub loop-first-preserved : goal.loop-first-preserved
unfolding encode
loop-first-preserved c = (
  tt,
  tt,
  (44 ∷ [], (refl, refl)),
  printed_more _ _ _ _ _ _ _ _ c.loop-first.invariant.3 (text_left _ _ _ _ c.in-Some.ensures.steps)
      c.in_ok-push_str.ensures.bytes c.in_ok-push_range.ensures,
)

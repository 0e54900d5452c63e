-- The script was run over the node, or there is none.
use Rattle.std.proofs.Common.{inl, inr, refl}
use Rattle.cli.proofs.run.do_run.Goals as goal

pub returns-in-Ok-boot : goal.returns-in-Ok-boot
returns-in-Ok-boot g c = inl (
  c.in-Ok.found,
  c.in-Ok.ensures,
  inl (
    c.in-Ok-boot.node,
    c.in-Ok-boot.ensures,
    (record c.args.console.now { out = c.play-end.new.w }, c.play-end.result, c.play-end.ensures, refl, c.finish.ensures),
  ),
)

pub returns-in-Err-boot : goal.returns-in-Err-boot
returns-in-Err-boot g c = inl (c.in-Ok.found, c.in-Ok.ensures, inr (c.print_then_note.ensures, refl))

pub returns-in-Err : goal.returns-in-Err
returns-in-Err g c = inr (c.in-Err.unready, c.in-Err.ensures, c.refuse.ensures, refl)

-- What the script's lines stand for was asked of the node's kernel.
use Rattle.cli.proofs.mirroring.play_mirrored.Goals as goal

pub returns : goal.returns
returns g c =
    let final = c.run_mirrored-end.new.guarded in
    let ends = rw (c.new-guarded.ensures, c.new.ensures) at c.run_mirrored-end.ensures.ends in (
      final,
      ends,
      rw c.into_runner.ensures at c.files_of.ensures,
      c.scripts_within.ensures.told _ _ _ _ _ _ _ final ends,
      c.scripts_within.ensures.scripts _ _ _ _ _ _ _ final c.holds.ensures ends,
    )

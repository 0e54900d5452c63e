-- The place of the writes: below the root, in the tree that was opened.
use Rattle.std.specs.Prelude.{string_bytes}
use Rattle.runtime.specs.MirroredNodes.{site_of}
use Rattle.cli.proofs.mirroring.do_run_mirrored.Given as goal

abbrev pub ghosts-run_mirrored_in : goal.ghosts-run_mirrored_in
ghosts-run_mirrored_in g a = record { site = site_of a.machine (string_bytes a.tree.root) a.tree.memory a.tree.options }

-- The place of the writes, and how the kernel begins.
use Rattle.std.specs.Prelude.{false, string_bytes}
use Rattle.tools.specs.StartLemmas.{beginning_of}
use Rattle.tools.proofs.mirror.over_files.Given as goal

abbrev pub ghosts-over : goal.ghosts-over
ghosts-over g a = record { site = record { root = string_bytes a.root; memory = a.memory; adopt = false; partition = false; first = beginning_of a.inner } }

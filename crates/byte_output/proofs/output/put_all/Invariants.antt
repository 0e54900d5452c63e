use Rattle.std.proofs.Common.{take}
use Rattle.std.specs.Io.KnownBytes.{Appends}
use Rattle.byte_output.specs.Parts.{bytes_of}
use Rattle.byte_output.proofs.output.put_all.Given as goal

abbrev pub invariant-loop-part : goal.invariant-loop-part
invariant-loop-part g l = Appends (g.W.Write.contents l.fn.w) (g.W.Write.contents l.w) (bytes_of (take l.part-index l.parts))

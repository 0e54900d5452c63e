use Rattle.std.proofs.Common.{take}
use Rattle.byte_output.specs.Parts.{bytes_of}
use Rattle.byte_output.specs.Gathering.{HasGathered}
use Rattle.byte_output.proofs.buffer.Buffer.add_all.Given as goal

abbrev pub invariant-loop-part : goal.invariant-loop-part
invariant-loop-part g l = HasGathered (g.W.Write.contents l.fn.w) (g.W.Write.contents l.w) l.fn.self l.self (bytes_of (take l.part-index l.parts))

use Rattle.program_io.proofs.KnownBytes.{HasGiven}
use Rattle.program_io.proofs.reading.read_all.Given as goal

abbrev pub invariant-loop-reads : goal.invariant-loop-reads
invariant-loop-reads g l = HasGiven (g.R.Read.remaining l.fn.reader) (g.R.Read.remaining l.reader) l.reads l.bytes.items

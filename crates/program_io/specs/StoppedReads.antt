-- What was read of an input that could not be read to its end.
use Rattle.std.specs.Prelude.{◌≡◌, ℕ, ◌+◌, ◌*◌, ◌≤◌, ◌<◌, List, Option, length}
use Rattle.std.specs.Io.KnownBytes.{Consumes}
use Rattle.program_io.specs.declared.fault.ReadFault.{ReadFault}
use Rattle.program_io.specs.declared.fault.ReadFault.TheVariants.{TooManyBytes, TooManyReads}
use Rattle.program_io.specs.declared.reading.TheConstants.{MOST_BYTES, MOST_READS, PIECE}
use Rattle.faults.specs.declared.or_memory.OrMemory.{OrMemory}
use Rattle.faults.specs.declared.or_memory.OrMemory.TheVariants.{Memory, Fault}

-- so many reads gave these bytes, each one of them at least and as many as are asked for at once at most
abbrev pub IsGivenBy : ℕ → List ℕ → Type 0
IsGivenBy reads bytes = (reads ≤ length bytes) × (length bytes ≤ reads * PIECE)

-- fewer reads gave these bytes than are made at most, and one more met the end
abbrev pub IsReadBy : List ℕ → Type 0
IsReadBy bytes = (reads : ℕ) × (reads < MOST_READS) × IsGivenBy reads bytes

-- so many reads gave bytes, no more of them than the bound
abbrev pub StopsAfter : Option (List ℕ) → Option (List ℕ) → ℕ → Type 0
StopsAfter old new reads = (taken : List ℕ) × IsGivenBy reads taken × (length taken ≤ MOST_BYTES) × Consumes old new taken

-- fewer reads gave bytes than are made at most, and a read more failed
abbrev pub StopsEarly : Option (List ℕ) → Option (List ℕ) → Type 0
StopsEarly old new = (reads : ℕ) × (reads < MOST_READS) × StopsAfter old new reads

-- some bytes were read, and an allocation for them failed
abbrev pub LacksRoom : Option (List ℕ) → Option (List ℕ) → Type 0
LacksRoom old new = (taken : List ℕ) × (0 < length taken) × (length taken ≤ MOST_BYTES) × Consumes old new taken

-- one byte more than the bound was read
abbrev pub PassesBound : Option (List ℕ) → Option (List ℕ) → Type 0
PassesBound old new = (taken : List ℕ) × (length taken ≡ MOST_BYTES + 1) × Consumes old new taken

-- how far an input was read that could not be read to its end, by the answer
abbrev pub StopsWith : Option (List ℕ) → Option (List ℕ) → OrMemory ReadFault → Type 0
StopsWith old new Memory = LacksRoom old new
StopsWith old new (Fault TooManyBytes) = PassesBound old new
StopsWith old new (Fault TooManyReads) = StopsAfter old new MOST_READS
StopsWith old new (Fault _) = StopsEarly old new

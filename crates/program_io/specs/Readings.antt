-- What the reading of an input answers: its bytes, or why they can't be had.
use Rattle.std.specs.Prelude.{◌≡◌, ◌⊎◌, ℕ, ◌<◌, ◌≤◌, List, length, Option, Result, Ok, Err, ⊤, IfSome}
use Rattle.std.specs.declared.io.ErrorKind.{ErrorKind}
use Rattle.faults.specs.declared.or_memory.OrMemory.{OrMemory}
use Rattle.faults.specs.declared.or_memory.OrMemory.TheVariants.{Memory, Fault}
use Rattle.program_io.specs.ReadFaults.{IsTold}
use Rattle.program_io.specs.declared.fault.ReadFault.{ReadFault}
use Rattle.program_io.specs.declared.fault.ReadFault.TheVariants.{TooManyBytes, TooManyReads}
use Rattle.program_io.specs.declared.reading.TheConstants.{MOST_BYTES, MOST_READS}

-- what the reading of an input answers: its bytes, or why they can't be had
abbrev pub Reading : Type 0
Reading = Result (List ℕ) (OrMemory ReadFault)

-- what the reading of these bytes may answer. Too many bytes or reads only if there are as many bytes, and an allocation
-- failure only if there are any. No one can know beforehand whether an allocation or a read fails.
abbrev pub IsReadingOf : List ℕ → Reading → Type 0
IsReadingOf all (Ok bytes) = (bytes ≡ all) × (length bytes ≤ MOST_BYTES)
IsReadingOf all (Err Memory) = 0 < length all
IsReadingOf all (Err (Fault TooManyBytes)) = MOST_BYTES < length all
IsReadingOf all (Err (Fault TooManyReads)) = MOST_READS ≤ length all
IsReadingOf all (Err (Fault _)) = ⊤

-- the same, as far as the bytes are known
abbrev pub IsReadingOfKnown : Option (List ℕ) → Reading → Type 0
IsReadingOfKnown known reading = IfSome known (λ all. IsReadingOf all reading)

-- of sources: the inputs that their opening may give, the errors by which it may fail, and what an input's reading may answer
module _ {S I : Type 0} (opens : S → I → Type 0) (fails : S → ErrorKind → Type 0) (gives : I → Reading → Type 0) where
  -- the source can't be opened, for the reason that the system told
  abbrev pub IsUnopened : S → ReadFault → Type 0
  IsUnopened source fault = (kind : ErrorKind) × fails source kind × IsTold kind fault

  -- what the reading of a source may answer: it is opened and read, or it can't be opened
  abbrev pub Reads : S → Reading → Type 0
  Reads source reading =
      ((input : I) × opens source input × gives input reading)
      ⊎ ((fault : ReadFault) × IsUnopened source fault × (reading ≡ Err (Fault fault)))

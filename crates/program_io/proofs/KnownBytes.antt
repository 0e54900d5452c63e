-- Bytes that a reader gave, one piece after another.
use Rattle.std.proofs.Common.{◌≡◌, ℕ, ◌+◌, ◌<◌, ◌≤◌, List, [], ◌++◌, length, take, Option, Some, None, IfSome, Ok, Err, arith, length-append, length-take, ap}
use Rattle.std.proofs.KnownBytes.{Consumes-kept, Consumes-nil, Consumes-trans}
use Rattle.std.specs.Io.KnownBytes.{Consumes, Keeps}
use Rattle.std.specs.declared.io.ErrorKind.{ErrorKind}
use Rattle.program_io.specs.ReadFaults.{IsTold}
use Rattle.program_io.specs.Readings.{IsReadingOfKnown}
use Rattle.program_io.specs.StoppedReads.{IsGivenBy, LacksRoom, PassesBound, StopsEarly, StopsWith}
use Rattle.program_io.specs.declared.fault.ReadFault.{ReadFault}
use Rattle.program_io.specs.declared.fault.ReadFault.TheVariants.{NoSuchFile, Directory, NotADirectory, Forbidden, Failed, TooManyBytes, TooManyReads}
use Rattle.program_io.specs.declared.reading.TheConstants.{MOST_BYTES, MOST_READS, PIECE}
use Rattle.faults.specs.declared.or_memory.OrMemory.{OrMemory}
use Rattle.faults.specs.declared.or_memory.OrMemory.TheVariants.{Memory, Fault}

-- so many reads gave bytes, no more of them than the bound
pub record HasGiven (old new : Option (List ℕ)) (reads : ℕ) (bytes : List ℕ) : Type 0 where
  pub given : IsGivenBy reads bytes
  pub within : length bytes ≤ MOST_BYTES
  pub taken : Consumes old new bytes

-- before the first read nothing was given
pub HasGiven-none : (old : Option (List ℕ)) (bytes : List ℕ) → bytes ≡ [] → HasGiven old old 0 bytes
HasGiven-none old bytes e = rw e (record { given = (omega arith, omega arith); within = omega arith; taken = Consumes-nil old })

-- a read more that gave some bytes
pub HasGiven-more : (a b c : Option (List ℕ)) (reads : ℕ) (bs cs : List ℕ) (n : ℕ) → HasGiven a b reads bs → 0 < n → n ≤ length cs → length cs ≤ PIECE → length bs + n ≤ MOST_BYTES
    → Consumes b c (take n cs) → HasGiven a c (reads + 1) (bs ++ take n cs)
HasGiven-more a b c reads bs cs n h some room piece within more = let long : length (bs ++ take n cs) ≡ length bs + n = omega (arith, room, length-append bs (take n cs), length-take n cs) in
    record {
      given = (omega (arith, h.given.0, some, long), omega (arith, h.given.1, room, piece, long));
      within = omega (arith, within, long);
      taken = Consumes-trans a b c bs (take n cs) h.taken more;
    }

-- at a fault that the system told no bound was passed
pub StopsWith-told : (a b c : Option (List ℕ)) (reads : ℕ) (bs : List ℕ) (kind : ErrorKind) (fault : ReadFault) → IsTold kind fault → reads < MOST_READS → HasGiven a b reads bs → Keeps b c
    → StopsWith a c (Fault fault)
StopsWith-told a b c reads bs kind fault told few h kept = by_fault fault told
  where
    stopped : StopsEarly a c
    stopped = (reads, few, (bs, h.given, h.within, Consumes-kept a b c bs h.taken kept))

    by_fault : (fault : ReadFault) → IsTold kind fault → StopsWith a c (Fault fault)
    by_fault NoSuchFile told = stopped
    by_fault Directory told = stopped
    by_fault NotADirectory told = stopped
    by_fault Forbidden told = stopped
    by_fault Failed told = stopped
    by_fault TooManyBytes told = absurd told
    by_fault TooManyReads told = absurd told

-- the allocation for the last piece failed
pub LacksRoom-more : (a b c : Option (List ℕ)) (bs cs : List ℕ) (n : ℕ) → 0 < n → n ≤ length cs → length bs + n ≤ MOST_BYTES → Consumes a b bs → Consumes b c (take n cs) → LacksRoom a c
LacksRoom-more a b c bs cs n some room within p q = let long : length (bs ++ take n cs) ≡ length bs + n = omega (arith, room, length-append bs (take n cs), length-take n cs) in
    (bs ++ take n cs, omega (arith, some, long), omega (arith, within, long), Consumes-trans a b c bs (take n cs) p q)

-- the piece that passes the bound
pub PassesBound-more : (a b c : Option (List ℕ)) (bs cs : List ℕ) (n : ℕ) → n ≤ length cs → length bs + n ≡ MOST_BYTES + 1 → Consumes a b bs → Consumes b c (take n cs) → PassesBound a c
PassesBound-more a b c bs cs n room past p q = (bs ++ take n cs, omega (arith, past, length-append bs (take n cs), length-take n cs), Consumes-trans a b c bs (take n cs) p q)

-- what was taken of known bytes is no longer than they are
taken_of : (all : List ℕ) (new : Option (List ℕ)) (taken : List ℕ) → Consumes (Some all) new taken → length taken ≤ length all
taken_of all None taken p = absurd p
taken_of all (Some rest) taken p = omega (arith, ap length p, length-append taken rest)

-- what was read before a stop says what the bytes are like
pub IsReadingOfKnown-stopped : (old new : Option (List ℕ)) (e : OrMemory ReadFault) → StopsWith old new e → IsReadingOfKnown old (Err e)
IsReadingOfKnown-stopped None new e stopped = tt
IsReadingOfKnown-stopped (Some all) new Memory (taken, some, within, p) = omega (arith, some, taken_of all new taken p)
IsReadingOfKnown-stopped (Some all) new (Fault TooManyBytes) (taken, past, p) = omega (arith, past, taken_of all new taken p)
IsReadingOfKnown-stopped (Some all) new (Fault TooManyReads) (taken, given, within, p) = omega (arith, given.0, taken_of all new taken p)
IsReadingOfKnown-stopped (Some all) new (Fault NoSuchFile) stopped = tt
IsReadingOfKnown-stopped (Some all) new (Fault Directory) stopped = tt
IsReadingOfKnown-stopped (Some all) new (Fault NotADirectory) stopped = tt
IsReadingOfKnown-stopped (Some all) new (Fault Forbidden) stopped = tt
IsReadingOfKnown-stopped (Some all) new (Fault Failed) stopped = tt

pub IsReadingOfKnown-whole : (old : Option (List ℕ)) (bytes : List ℕ) → IfSome old (λ all. bytes ≡ all) → length bytes ≤ MOST_BYTES → IsReadingOfKnown old (Ok bytes)
IsReadingOfKnown-whole None bytes whole within = tt
IsReadingOfKnown-whole (Some all) bytes whole within = (whole, within)

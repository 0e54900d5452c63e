-- How an answer stands to the fault or the value that it should be, where an allocation may fail.
use Rattle.std.specs.Prelude.{◌≡◌, Option, Some, None, Result, Ok, Err}
use Rattle.faults.specs.declared.or_memory.OrMemory.{OrMemory}
use Rattle.faults.specs.declared.or_memory.OrMemory.TheVariants.{Memory, Fault}

-- this fault is answered, or a value if there is none, unless an allocation failed
abbrev pub Reports : {T F : Type 0} → Result T (OrMemory F) → Option F → Type 0
Reports (Ok x) fault = fault ≡ None
Reports (Err Memory) fault = Unit {0}
Reports (Err (Fault e)) fault = fault ≡ Some e

-- this is the answer, unless an allocation failed
abbrev pub Gives : {T F : Type 0} → Result T (OrMemory F) → Result T F → Type 0
Gives (Ok x) expected = expected ≡ Ok x
Gives (Err Memory) expected = Unit {0}
Gives (Err (Fault e)) expected = expected ≡ Err e

-- the checks for this fault come before the first allocation: if there is a fault, the answer is no allocation failure and no
-- value
abbrev pub ChecksFirst : {T F : Type 0} → Result T (OrMemory F) → Option F → Type 0
ChecksFirst (Ok x) fault = fault ≡ None
ChecksFirst (Err Memory) fault = fault ≡ None
ChecksFirst (Err (Fault e)) fault = Unit {0}

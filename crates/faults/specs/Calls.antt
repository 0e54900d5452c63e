-- What a call does to a state: it answers the first thing that stands against it and changes nothing, or does what it is for.
use Rattle.std.specs.Prelude.{◌≡◌, Option, Some, None, Result, Ok, Err}
use Rattle.std.specs.Borrow.{Bor}
use Rattle.faults.specs.declared.or_memory.OrMemory.{OrMemory}
use Rattle.faults.specs.declared.or_memory.OrMemory.TheVariants.{Memory, Fault}

module _ {S A F : Type 0} (refusal : Option F) (Does : A → S → Type 0) (old : S) where
  -- the call answers the first reason to refuse it and changes nothing, or does what it is for
  abbrev pub Decides : Result A F → S → Type 0
  Decides (Ok value) new = (refusal ≡ None) × Does value new
  Decides (Err fault) new = (refusal ≡ Some fault) × (new ≡ old)

  -- the same of a call that allocates; it allocates only once nothing stands against the call
  abbrev pub Grows : Result A (OrMemory F) → S → Type 0
  Grows (Ok value) new = (refusal ≡ None) × Does value new
  Grows (Err Memory) new = (refusal ≡ None) × (new ≡ old)
  Grows (Err (Fault fault)) new = (refusal ≡ Some fault) × (new ≡ old)

-- what a call gives that returns a reference
abbrev pub behind : {A F : Type 0} → Result (Bor A) F → Result A F
behind (Ok reference) = Ok reference.now
behind (Err fault) = Err fault

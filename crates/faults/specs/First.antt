-- Which of several faults a reader answers: the first in a written order. A check that may fail is an optional fault.
use Rattle.std.specs.Prelude.{ℕ, suc, zero, Bool, cond, Option, Some, None, Result, Ok, Err, List, [], ◌∷◌}
use Rattle.std.specs.Option.{option_or}

-- a fault if a test says so, else none
abbrev pub when : {A : Type 0} → Bool → A → Option A
when test a = cond test (Some a) None

-- the first fault of a list that has one
abbrev pub first_of : {A : Type 0} → List (Option A) → Option A
first_of [] = None
first_of (a ∷ rest) = option_or a (first_of rest)

-- the first fault that f gives of the numbers 0, 1 and so on below n
unfoldable pub first_below : {A : Type 0} → ℕ → (ℕ → Option A) → Option A
first_below zero f = None
first_below (suc n) f = option_or (first_below n f) (f n)

-- the value if a test says so, else the fault
abbrev pub value_where : {A F : Type 0} → Bool → F → A → Result A F
value_where test fault x = cond test (Ok x) (Err fault)

-- the fault if there is one, else the value
abbrev pub unless : {A F : Type 0} → Option F → A → Result A F
unless None x = Ok x
unless (Some fault) x = Err fault

-- The test of the reserved CPUs.
use Rattle.std.proofs.Common.{◌≡◌, Bool, true, false, Option, Some, None, refl}
use Rattle.std.specs.Prelude.{◌||◌}
use Rattle.std.specs.FinSet as set
use Rattle.serde_json.specs.Data.{Data}
use Rattle.cpu_set.specs.Ids.{Ids, is_empty}
use Rattle.machine.specs.BootFaults.{required_fault, reserved_fault}
use Rattle.machine.specs.Listed.{listed_in}
use Rattle.machine.specs.declared.fault.MachineFault.TheVariants.{BadReserved}
use Rattle.machine.specs.declared.field.Field.TheVariants.{Reserved}

or_true : (a : Bool) → (a || true) ≡ true
or_true true = refl
or_true false = refl

pub reserved_fault-empty :
    (found : Option Data) (reserved present : Ids) → required_fault Reserved found ≡ None → reserved ≡ listed_in found
    → is_empty reserved ≡ true → reserved_fault found present ≡ Some BadReserved
unfolding reserved_fault
reserved_fault-empty found reserved present none is empty = rw (none, ← is, empty) refl

pub reserved_fault-outside :
    (found : Option Data) (reserved present : Ids) → required_fault Reserved found ≡ None → reserved ≡ listed_in found
    → set.is_subset reserved present ≡ false → reserved_fault found present ≡ Some BadReserved
unfolding reserved_fault
reserved_fault-outside found reserved present none is outside =
    rw (none, ← is, outside, or_true (is_empty reserved)) refl

pub reserved_fault-none :
    (found : Option Data) (reserved present : Ids) → required_fault Reserved found ≡ None → reserved ≡ listed_in found
    → is_empty reserved ≡ false → set.is_subset reserved present ≡ true → reserved_fault found present ≡ None
unfolding reserved_fault
reserved_fault-none found reserved present none is some within = rw (none, ← is, some, within) refl

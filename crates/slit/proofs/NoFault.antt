use Rattle.std.proofs.Common.{◌≡◌, ℕ, List, None, arith}
use Rattle.std.proofs.lemmas.Grind.{common_steps}
use Rattle.faults.specs.FirstLaws.{first_below-none}
use Rattle.slit.specs.AreDistances.{AreDistances, IsEntry}
use Rattle.slit.specs.EntriesFault.{entry_fault, table_row_fault, entries_fault}
use Rattle.slit.specs.Header.{HasHeader}
use Rattle.slit.specs.HeaderFault.{header_fault}
use Rattle.slit.specs.Table.{Table}

-- a header that is in order has no fault
pub header_fault-none : (bytes : List ℕ) (n : ℕ) → HasHeader bytes n → header_fault bytes ≡ None
unfolding header_fault
header_fault-none bytes n h = rw h.count (grind (arith, common_steps))

-- an entry that the standard allows has no fault
entry_fault-none : (i j entry : ℕ) → IsEntry i j entry → entry_fault i j entry ≡ None
entry_fault-none i j entry h = grind (arith, common_steps)

-- distances that the standard allows have no fault
pub entries_fault-none : (t : Table) → AreDistances t → entries_fault t ≡ None
unfolding entries_fault table_row_fault
entries_fault-none t h =
    first_below-none _ _ (λ i in_i. first_below-none _ _ (λ j in_j. entry_fault-none i j _ (h.rows i in_i j in_j)))

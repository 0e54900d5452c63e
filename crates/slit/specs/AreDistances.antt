-- From: ACPI, System Locality Information Table.
use Rattle.std.specs.Prelude.{◌≡◌, ℕ, ◌<◌, ◌≤◌, ◌*◌, length}
use Rattle.slit.specs.declared.TheConstants.{MAX_LOCALITIES}
use Rattle.slit.specs.Table.{Table, distance}

-- The standard allows this entry in row i and column j: no reserved value, and 10 on the diagonal.
pub record IsEntry (i j entry : ℕ) : Type 0 where
  pub not_reserved : 10 ≤ entry
  pub at_most : entry ≤ 255
  pub diagonal : i ≡ j → entry ≡ 10

-- each of the entries in row i is allowed
abbrev pub IsRow : Table → ℕ → Type 0
IsRow t i = (j : ℕ) → j < t.localities → IsEntry i j (distance t i j)

-- distances between as many localities as a table may have, each as the standard allows it: 10 on the diagonal and else 10 to
-- 255
pub record AreDistances (t : Table) : Type 0 where
  pub some : 1 ≤ t.localities
  pub few : t.localities ≤ MAX_LOCALITIES
  pub square : length t.entries ≡ t.localities * t.localities
  pub rows : (i : ℕ) → i < t.localities → IsRow t i

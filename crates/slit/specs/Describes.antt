-- From: ACPI, System Locality Information Table.
use Rattle.std.specs.Prelude.{◌≡◌, ℕ, ◌*◌, List, take, drop}
use Rattle.slit.specs.Table.{Table}
use Rattle.slit.specs.AreDistances.{AreDistances}
use Rattle.slit.specs.Header.{HasHeader, count_of}

-- what stands in the bytes of a table: the number of localities, and the entries from byte 44 on
unfoldable pub table_of : List ℕ → Table
table_of bytes = record {
  localities = count_of bytes;
  entries = take (count_of bytes * count_of bytes) (drop 44 bytes);
}

-- the bytes are the table of these distances. Signature, length and sum are in order. N is in bytes 36 to 43, and the entries
-- stand from byte 44 on.
pub record Describes (bytes : List ℕ) (t : Table) : Type 0 where
  pub header : HasHeader bytes t.localities
  pub there : t ≡ table_of bytes
  pub distances : AreDistances t

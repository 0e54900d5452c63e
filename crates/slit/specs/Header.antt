-- From: ACPI, System Locality Information Table.
use Rattle.std.specs.Prelude.{◌≡◌, ℕ, ◌+◌, ◌*◌, ◌≤◌, ◌%◌, List, length, take, drop, sum, codes, IsTrue, nat_eq}
use Rattle.std.specs.Int.{from_le_bytes, w32, w64}
use Rattle.std.specs.List.{starts_with}
use Rattle.slit.specs.declared.TheConstants.{MAX_LOCALITIES}

-- the length of the table, in bytes 4 to 7
unfoldable pub size_of : List ℕ → ℕ
size_of bytes = from_le_bytes w32 (drop 4 bytes)

-- the number of system localities, in bytes 36 to 43
unfoldable pub count_of : List ℕ → ℕ
count_of bytes = from_le_bytes w64 (drop 36 bytes)

-- The bytes begin with the header of a table of n localities, and the table is all there.
pub record HasHeader (bytes : List ℕ) (n : ℕ) : Type 0 where
  pub signature : IsTrue (starts_with nat_eq bytes (codes "SLIT"))
  pub count : count_of bytes ≡ n
  pub at_least_one : 1 ≤ n
  pub at_most : n ≤ MAX_LOCALITIES
  pub size : size_of bytes ≡ 44 + n * n
  pub enough : 44 + n * n ≤ length bytes
  pub sum : sum (take (44 + n * n) bytes) % 256 ≡ 0

use Rattle.std.specs.Prelude.{ℕ, ◌+◌, ◌*◌, ◌%◌, ◌==◌, ◌&&◌, not, nat_lt, nat_le, nat_eq, List, [], ◌∷◌, length, take, sum, codes, Option}
use Rattle.std.specs.List.{starts_with}
use Rattle.faults.specs.First.{when, first_of}
use Rattle.slit.specs.declared.TheConstants.{MAX_LOCALITIES}
use Rattle.slit.specs.declared.fault.SlitFault.{SlitFault}
use Rattle.slit.specs.declared.fault.SlitFault.TheVariants.{TooShort, BadSignature, BadCount, BadLength, BadSum}
use Rattle.slit.specs.Header.{size_of, count_of}

-- the first fault of the header, and of the length and the sum that it tells
unfoldable pub header_fault : List ℕ → Option SlitFault
header_fault bytes = first_of (
    when (nat_lt (length bytes) 44) TooShort
    ∷ when (not (starts_with nat_eq bytes (codes "SLIT"))) BadSignature
    ∷ when (not (nat_le 1 (count_of bytes) && nat_le (count_of bytes) MAX_LOCALITIES)) BadCount
    ∷ when (not (size_of bytes == 44 + count_of bytes * count_of bytes && nat_le (size_of bytes) (length bytes))) BadLength
    ∷ when (not (sum (take (44 + count_of bytes * count_of bytes) bytes) % 256 == 0)) BadSum
    ∷ [])

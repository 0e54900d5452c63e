-- Bytes that stand in several slices.
use Rattle.std.specs.Borrow.{Bor}
use Rattle.std.specs.Prelude.{ℕ, List}
use Rattle.std.specs.List.{flat_map}

-- the bytes of the slices, one after another
abbrev pub bytes_of : List (Bor (List ℕ)) → List ℕ
bytes_of parts = flat_map (λ (part : Bor (List ℕ)). part.now) parts

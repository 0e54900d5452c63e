-- A small table to try the definitions on.
use Rattle.std.specs.Prelude.{ℕ, List, [], ◌∷◌, ◌++◌, codes, replicate}

-- two localities in 48 bytes, all written with the lowest byte first: signature, length, revision, this checksum, the
-- rest of the header, the number of localities, and these four entries
abbrev pub small_table : ℕ → List ℕ → List ℕ
small_table checksum entries =
    codes "SLIT" ++ (48 ∷ 0 ∷ 0 ∷ 0 ∷ 1 ∷ checksum ∷ []) ++ replicate 26 0 ++ (2 ∷ replicate 7 0) ++ entries

-- distances of 10 and 21: the other bytes sum to 429, and 512 is twice 256
abbrev pub two_sockets : List ℕ
two_sockets = small_table 83 (10 ∷ 21 ∷ 21 ∷ 10 ∷ [])

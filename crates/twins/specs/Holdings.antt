-- How many CPUs of each class the rows hold: for each class a list of shares.
use Rattle.std.specs.Prelude.{ℕ, ◌==◌, if◌then◌else◌, List, [], sum_by, slice_index_or}
use Rattle.twins.specs.declared.holders.Share.{Share}

-- how many of these are row k's
abbrev pub share_of : ℕ → List Share → ℕ
share_of k shares = sum_by (λ s. if s.row == k then s.amount else 0) shares

-- how many these are together
abbrev pub shared_out : List Share → ℕ
shared_out shares = sum_by (λ s. s.amount) shares

-- how many CPUs of class g row k holds
abbrev pub cell : List (List Share) → ℕ → ℕ → ℕ
cell holdings k g = share_of k (slice_index_or holdings g [])

-- how many CPUs of class g the rows hold together
abbrev pub held_of : List (List Share) → ℕ → ℕ
held_of holdings g = shared_out (slice_index_or holdings g [])

-- Weights of two parts: the distance, and the moves.
use Rattle.std.specs.Prelude.{◌≡◌, ◌↔◌, ℕ, ◌≤◌, Bool, true, nat_le, List, map}
use Rattle.std.specs.List.{list_all}
use Rattle.cpu_set.specs.Ids.{Ids}
use Rattle.cpu_set.specs.declared.TheConstants.{CPU_LIMIT}
use Rattle.certificate.specs.RowView.{RowView}
use Rattle.certificate.specs.IsPlan.{IsPlan}
use Rattle.certificate.specs.Cost.{cost}
use Rattle.certificate.specs.IsLeast.{IsLeast}
use Rattle.certificate.specs.declared.rows.Offer.{Offer}
use Rattle.certificate.specs.Packed.{packed, distance_of, moves_of}

-- the same CPUs at another weight
abbrev pub with_weight : (ℕ → ℕ) → Offer → Offer
with_weight f o = record { weight = f o.weight; cpus = o.cpus }

-- the same row, each weight put through f
abbrev pub with_weights : (ℕ → ℕ) → RowView → RowView
with_weights f row = record { id = row.id; demand = row.demand; offers = map (with_weight f) row.offers }

-- the rows whose weights are the distances alone
abbrev pub by_distance : List RowView → List RowView
by_distance rows = map (with_weights distance_of) rows

-- the rows whose weights are the moves alone
abbrev pub by_moves : List RowView → List RowView
by_moves rows = map (with_weights moves_of) rows

-- a CPU of the offer is a move or none
abbrev pub is_scaled : Offer → Bool
is_scaled o = nat_le (moves_of o.weight) 1

-- no CPU of any row is more than one move
abbrev pub are_scaled : List RowView → Bool
are_scaled rows = list_all (λ row. list_all is_scaled row.offers) rows

-- what sets cost is the distance and the moves, packed
abbrev pub CostSplits : Type 0
CostSplits =
    (rows : List RowView) (sets : List Ids)
    → cost rows sets ≡ packed (cost (by_distance rows) sets) (cost (by_moves rows) sets)

-- the rows have the same plans by distance
abbrev pub SamePlans : Type 0
SamePlans = (rows : List RowView) (sets : List Ids) → IsPlan rows sets ↔ IsPlan (by_distance rows) sets

-- a plan moves no more CPUs than there are
abbrev pub MovesAreFew : Type 0
MovesAreFew =
    (rows : List RowView) (sets : List Ids) → are_scaled rows ≡ true → IsPlan rows sets → cost (by_moves rows) sets ≤ CPU_LIMIT

-- a plan of least cost is one of least distance, and no plan of that distance has fewer moves
abbrev pub LeastIsNearest : Type 0
LeastIsNearest =
    (rows : List RowView) (sets : List Ids) → are_scaled rows ≡ true → IsLeast rows sets
    → IsLeast (by_distance rows) sets
    × ((others : List Ids) → IsPlan rows others → cost (by_distance rows) others ≡ cost (by_distance rows) sets
    → cost (by_moves rows) sets ≤ cost (by_moves rows) others)

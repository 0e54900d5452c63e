-- Rows of one kind: those that have the same offers.
use Rattle.std.specs.Prelude.{◌≡◌, ℕ, ◌<◌, ◌≤◌, ◌⊎◌, List, [], map, length, slice_index_or}
use Rattle.certificate.specs.RowView.{RowView}
use Rattle.certificate.specs.declared.rows.Offer.{Offer}

-- the offers of row k
abbrev pub offers_of : List RowView → ℕ → List Offer
offers_of rows k = slice_index_or (map (λ r. r.offers) rows) k []

-- the kind of a row, by the first row of it
abbrev pub kind_at : List ℕ → ℕ → ℕ
kind_at kinds k = slice_index_or kinds k 0

-- a row that is no later, has the same offers, and is the first of its kind
pub record IsKindOf (rows : List RowView) (kinds : List ℕ) (k j : ℕ) : Type 0 where
  pub no_later : j ≤ k
  pub same : offers_of rows j ≡ offers_of rows k
  pub first : kind_at kinds j ≡ j

-- a representative for each of the first rows: a row that is no later, has the same offers, and represents itself
pub record AreKinds (rows : List RowView) (upto : ℕ) (kinds : List ℕ) : Type 0 where
  pub long : length kinds ≡ upto
  pub each : (k : ℕ) → k < upto → IsKindOf rows kinds k (kind_at kinds k)

-- the next row is of the kind of an earlier one, or of its own
abbrev pub IsNextKind : List RowView → List ℕ → ℕ → ℕ → Type 0
IsNextKind rows kinds k j = (j ≡ k) ⊎ ((j < k) × IsKindOf rows kinds k j)

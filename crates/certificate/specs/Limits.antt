-- What is checked at all: problems, plans and prices within these limits.
use Rattle.std.specs.Prelude.{ℕ, Bool, true, ◌&&◌, ◌==◌, nat_le, nat_lt, List, [], ◌∷◌, length}
use Rattle.std.specs.List.{list_all}
use Rattle.std.specs.FinSet as set
use Rattle.cpu_set.specs.Ids.{Ids, is_empty}
use Rattle.certificate.specs.RowView.{RowView}
use Rattle.certificate.specs.PricesView.{PricesView}
use Rattle.certificate.specs.declared.rows.Offer.{Offer}
use Rattle.certificate.specs.declared.price_lists.Price.{Price}
use Rattle.certificate.specs.declared.limits.TheConstants.{MAX_ROWS, MAX_DEMAND, MAX_WEIGHT, MAX_AMOUNT}

-- no number is in both
abbrev pub is_disjoint : Ids → Ids → Bool
is_disjoint s t = is_empty (set.intersection s t)

-- no number is in the sets of two of these
abbrev pub are_apart : {A : Type 0} → (A → Ids) → List A → Bool
are_apart set_of [] = true
are_apart set_of (x ∷ more) = list_all (λ y. is_disjoint (set_of x) (set_of y)) more && are_apart set_of more

-- no weight past its limit, and no CPU in two offers
unfoldable pub offers_fit : List Offer → Bool
offers_fit offers = list_all (λ o. nat_le o.weight MAX_WEIGHT) offers && are_apart (λ o. o.cpus) offers

-- a row within its limits: it asks for at least one CPU and not more than the limit, no weight is past its limit, and no CPU
-- is in two offers
unfoldable pub row_fits : RowView → Bool
row_fits row = nat_le 1 row.demand && (nat_le row.demand MAX_DEMAND && offers_fit row.offers)

-- no amount past its limit, and no CPU in two prices
unfoldable pub prices_fit : List Price → Bool
prices_fit prices = list_all (λ p. nat_le p.amount MAX_AMOUNT) prices && are_apart (λ p. p.cpus) prices

-- no value past its limit
abbrev pub values_fit : List ℕ → Bool
values_fit values = list_all (λ v. nat_le v MAX_AMOUNT) values

-- not too many rows, and each within its limits
unfoldable pub rows_fit : List RowView → Bool
rows_fit rows = nat_le (length rows) MAX_ROWS && list_all row_fits rows

-- all is within its limits, and there is one set and one value for each row
unfoldable pub is_within_limits : List RowView → List Ids → PricesView → Bool
is_within_limits rows sets prices =
    rows_fit rows && (length sets == length rows && (length prices.values == length rows
    && (values_fit prices.values && prices_fit prices.of_cpu)))

-- each number is below all later ones
abbrev pub is_rising : List ℕ → Bool
is_rising [] = true
is_rising (k ∷ ks) = list_all (nat_lt k) ks && is_rising ks

-- numbers of some rows, each once, in rising order
abbrev pub are_row_numbers : List RowView → List ℕ → Bool
are_row_numbers rows members = is_rising members && list_all (λ k. nat_lt k (length rows)) members

-- the rows are within their limits, and the members are numbers of some of them
unfoldable pub is_shortage_within_limits : List RowView → List ℕ → Bool
is_shortage_within_limits rows members = rows_fit rows && are_row_numbers rows members

-- Small problems to try the definitions on: the examples of docs/formats.md, "Certificates".
use Rattle.std.specs.Prelude.{ℕ, List, [], ◌∷◌, codes}
use Rattle.std.specs.FinSet as set
use Rattle.cpu_set.specs.Ids.{Ids}
use Rattle.certificate.specs.RowView.{RowView}
use Rattle.certificate.specs.PricesView.{PricesView}
use Rattle.certificate.specs.declared.rows.Offer.{Offer}
use Rattle.certificate.specs.declared.price_lists.Price.{Price}
use Rattle.certificate.specs.declared.certificates.Certificate.{Certificate}
use Rattle.certificate.specs.declared.certificates.Certificate.TheVariants.{Plan}
use Rattle.certificate.specs.declared.weights.Weights.TheVariants.{Plain, WithMoves}

-- these CPUs at this weight
abbrev pub offer : ℕ → List ℕ → Offer
offer weight cpus = record { weight = weight; cpus = set.from_list cpus }

-- these CPUs at this price
abbrev pub price_of : ℕ → List ℕ → Price
price_of amount cpus = record { amount = amount; cpus = set.from_list cpus }

-- `row a 1 10:1 11:2`
abbrev pub row_a : RowView
row_a = record { id = codes "a"; demand = 1; offers = offer 10 (1 ∷ []) ∷ offer 11 (2 ∷ []) ∷ [] }

-- `row b 1 12:1 50:2`
abbrev pub row_b : RowView
row_b = record { id = codes "b"; demand = 1; offers = offer 12 (1 ∷ []) ∷ offer 50 (2 ∷ []) ∷ [] }

abbrev pub two_rows : List RowView
two_rows = row_a ∷ row_b ∷ []

-- CPUs for each of the two
abbrev pub held : List ℕ → List ℕ → List Ids
held one other = set.from_list one ∷ set.from_list other ∷ []

-- a value for each of the two, and `price 1 1`
abbrev pub priced : ℕ → ℕ → PricesView
priced one other = record { values = one ∷ other ∷ []; of_cpu = price_of 1 (1 ∷ []) ∷ [] }

-- the certificate in which `a` holds CPU 2 at the value 11, and `b` CPU 1 at 13, with this total
abbrev pub certificate_of : ℕ → Certificate
certificate_of total = Plan two_rows (held (2 ∷ []) (1 ∷ [])) (priced 11 13) total Plain

-- `row a 2 10:1-2`, `row b 1 10:1-2` and `row c 1 10:4-5`
abbrev pub three_rows : List RowView
three_rows =
    record { id = codes "a"; demand = 2; offers = offer 10 (1 ∷ 2 ∷ []) ∷ [] }
    ∷ record { id = codes "b"; demand = 1; offers = offer 10 (1 ∷ 2 ∷ []) ∷ [] }
    ∷ record { id = codes "c"; demand = 1; offers = offer 10 (4 ∷ 5 ∷ []) ∷ [] }
    ∷ []

-- `row a 2 655360:4-5 655361:2-3`, whose weights count moves
abbrev pub row_with_moves : RowView
row_with_moves = record { id = codes "a"; demand = 2; offers = offer 655360 (4 ∷ 5 ∷ []) ∷ offer 655361 (2 ∷ 3 ∷ []) ∷ [] }

-- it stays on its two CPUs: the total is 20 times 65,536
abbrev pub moves_certificate : Certificate
moves_certificate =
    Plan (row_with_moves ∷ []) (set.from_list (4 ∷ 5 ∷ []) ∷ []) (record { values = 655360 ∷ []; of_cpu = [] }) 1310720 WithMoves

-- A row as contracts see it.
use Rattle.std.specs.Prelude.{ℕ, List, refl}
use Rattle.std.specs.Coded.{Coded, code_by, coded×, coded_list, coded_ℕ}
use Rattle.cpu_set.specs.Ids.{Ids, ids_code}
use Rattle.certificate.specs.declared.rows.Offer.{Offer}

-- a row as a plain value: a container's id, how many CPUs it asks for, and the CPUs that it may have with their weights
pub record RowView : Type 0 where
  pub id : List ℕ
  pub demand : ℕ
  pub offers : List Offer

-- offers, a row and a list of rows are stored as the tuples of their fields
abbrev pub offer_code : Coded Offer
offer_code =
    code_by (ℕ × Ids) (coded× coded_ℕ ids_code) (λ o. (o.weight, o.cpus))
    (λ p. record { weight = p.0; cpus = p.1 }) (λ _. refl)

abbrev pub offers_code : Coded (List Offer)
offers_code = coded_list offer_code

abbrev pub row_code : Coded RowView
row_code =
    code_by (List ℕ × (ℕ × List Offer)) (coded× (coded_list coded_ℕ) (coded× coded_ℕ offers_code))
    (λ r. (r.id, (r.demand, r.offers))) (λ p. record { id = p.0; demand = p.1.0; offers = p.1.1 }) (λ _. refl)

abbrev pub rows_code : Coded (List RowView)
rows_code = coded_list row_code

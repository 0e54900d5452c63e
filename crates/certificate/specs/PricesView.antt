-- Values and prices as contracts see them.
use Rattle.std.specs.Prelude.{ℕ, List, refl}
use Rattle.std.specs.Coded.{Coded, code_by, coded×, coded_list, coded_ℕ}
use Rattle.cpu_set.specs.Ids.{Ids, ids_code}
use Rattle.certificate.specs.declared.price_lists.Price.{Price}

-- values and prices as plain values: a value for each row, and the prices of CPUs
pub record PricesView : Type 0 where
  pub values : List ℕ
  pub of_cpu : List Price

-- a price and a list of them are stored as the pairs of their fields, and so are values with prices
abbrev pub price_code : Coded Price
price_code =
    code_by (ℕ × Ids) (coded× coded_ℕ ids_code) (λ p. (p.amount, p.cpus))
    (λ p. record { amount = p.0; cpus = p.1 }) (λ _. refl)

abbrev pub price_list_code : Coded (List Price)
price_list_code = coded_list price_code

abbrev pub prices_code : Coded PricesView
prices_code =
    code_by (List ℕ × List Price) (coded× (coded_list coded_ℕ) price_list_code)
    (λ p. (p.values, p.of_cpu)) (λ p. record { values = p.0; of_cpu = p.1 }) (λ _. refl)

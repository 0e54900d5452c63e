-- CPUs as the offers of a row.
use Rattle.std.specs.Prelude.{ℕ, Bool, ◌==◌, nat_lt, List, map, filter}
use Rattle.std.specs.List.{range_with_len}
use Rattle.std.specs.FinSet as set
use Rattle.cpu_set.specs.Ids.{Ids}
use Rattle.machine.specs.Layout.{Layout}
use Rattle.machine.specs.Weight.{weight}
use Rattle.certificate.specs.declared.Offer.{Offer}

-- those of the CPUs that have this weight for these homes
abbrev pub of_weight : Layout → Ids → Ids → ℕ → Ids
of_weight m homes cpus w = set.retain cpus (λ c. weight m homes c == w)

abbrev pub offer_at : Layout → Ids → Ids → ℕ → Offer
offer_at m homes cpus w = record { weight = w; cpus = of_weight m homes cpus w }

-- it offers a CPU
abbrev pub has_some : Offer → Bool
has_some offer = nat_lt 0 (set.len offer.cpus)

-- an offer for each weight below this one that a CPU has, rising
abbrev pub offers_below : Layout → Ids → Ids → ℕ → List Offer
offers_below m homes cpus n = filter has_some (map (offer_at m homes cpus) (range_with_len 0 n))

-- an offer for each distance at which a node can be reached, rising, with the CPUs there
unfoldable pub offers_by_distance : Layout → Ids → Ids → List Offer
offers_by_distance m homes cpus = offers_below m homes cpus 255

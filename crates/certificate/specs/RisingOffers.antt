-- Offers by rising weight.
use Rattle.certificate.specs.declared.rows.Offer.{Offer}
use Rattle.std.proofs.Common.{List, length, ℕ, ◌<◌}
use Rattle.std.specs.Prelude.{slice_index_or}

-- each offer weighs more than all before it
abbrev pub AreRising : List Offer → Type 0
AreRising offers = (i j : ℕ) (d : Offer) → i < j → j < length offers → (slice_index_or offers i d).weight < (slice_index_or offers j d).weight

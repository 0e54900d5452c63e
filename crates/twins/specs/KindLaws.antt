-- What is read of a row's offers.
use Rattle.std.proofs.Common.{◌≡◌, ℕ, ◌<◌, List, [], length, get_or, sym, ap, ◌∙◌}
use Rattle.std.proofs.lemmas.List.{get_or-map}
use Rattle.certificate.specs.RowView.{RowView}
use Rattle.twins.specs.Kinds.{offers_of}

-- a row that was read has its own offers
pub own_offers : (rows : List RowView) (k : ℕ) (row : RowView) → k < length rows → row ≡ get_or rows k row → row.offers ≡ offers_of rows k
own_offers rows k row lt is = ap (λ (r : RowView). r.offers) is ∙ sym (get_or-map (λ (r : RowView). r.offers) rows k row [] lt)

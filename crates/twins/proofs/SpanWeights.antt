-- The weights of an offer's ranges.
use Rattle.std.proofs.Common.{◌≡◌, ℕ, ◌<◌, ◌&&◌, true, Some, List, All, nat_le, length, map, get_or, sym, ap, ◌∙◌}
use Rattle.std.specs.FinSet as set
use Rattle.std.proofs.lemmas.Bool.{le-leb, and_from}
use Rattle.std.proofs.lemmas.List.Elements.{All-map}
use Rattle.std.proofs.lemmas.List.Folds.{list_any_at}
use Rattle.cpu_set.specs.Ranges.{in_ranges}
use Rattle.certificate.specs.Limits.{offers_fit}
use Rattle.certificate.specs.declared.rows.Offer.{Offer}
use Rattle.twins.specs.AreSpans.{IsSpan}
use Rattle.twins.specs.SpanCode.{span_of}
use Rattle.twins.proofs.Weights.{at_place, in_offer}

none : Offer
none = record { weight = 0; cpus = set.empty }

-- the ranges of an offer have the offer's weight
pub ranges_weigh :
    (offers : List Offer) (at w : ℕ) (ranges : List (ℕ × ℕ)) → offers_fit offers ≡ true → at < length offers → ((d : Offer) → w ≡ (get_or offers at d).weight)
    → ((d : Offer) (cpu : ℕ) → in_ranges ranges cpu ≡ set.contains (get_or offers at d).cpus cpu)
    → All (IsSpan offers) (map (span_of w) ranges)
ranges_weigh offers at w ranges fit lt weighs members =
    All-map (IsSpan offers) (span_of w) ranges (λ i d in_i cpu from to.
    in_offer offers at (get_or offers at none) cpu lt (at_place offers at none lt) fit
    (sym (members none cpu) ∙ list_any_at (λ (p : ℕ × ℕ). nat_le p.0 cpu && nat_le cpu p.1) ranges i d in_i (and_from _ _ (le-leb _ _ from) (le-leb _ _ to)))
    ∙ ap Some (sym (weighs none)))

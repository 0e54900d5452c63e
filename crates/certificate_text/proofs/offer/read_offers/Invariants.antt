use Rattle.std.proofs.Common.{◌≡◌, false, List, ℕ, ◌++◌, length}
use Rattle.std.specs.List.{AllZip}
use Rattle.certificate.specs.declared.rows.Offer.{Offer}
use Rattle.certificate_text.specs.Line.{IsOfferWord, words}
use Rattle.certificate_text.proofs.offer.read_offers.Given as goal

-- the words so far spell offers, which are kept unless an allocation failed
abbrev pub invariant-loop-word : goal.invariant-loop-word
invariant-loop-word l = (front : List (List ℕ)) × (os : List Offer) × (words l.text ≡ front ++ words l.rest) × AllZip IsOfferWord front os × (l.lacks ≡ false → l.offers ≡ os)

abbrev pub decreases-loop-word : goal.decreases-loop-word
decreases-loop-word l = length l.rest

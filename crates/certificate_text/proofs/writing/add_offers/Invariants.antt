use Rattle.std.proofs.Common.{take}
use Rattle.std.specs.List.{flat_map}
use Rattle.byte_output.specs.Gathering.{HasGathered}
use Rattle.certificate_text.specs.Written.{offer_text, IsOfferHeld}
use Rattle.certificate_text.proofs.HeldItems.{HoldUpTo}
use Rattle.certificate_text.proofs.writing.add_offers.Given as goal

abbrev pub invariant-loop-at : goal.invariant-loop-at
invariant-loop-at g l = record {
  sent : HasGathered (g.W.Write.contents l.fn.w) (g.W.Write.contents l.w) l.fn.buffer l.buffer (flat_map offer_text (take l.at l.offers));
  held : HoldUpTo IsOfferHeld l.offers l.at;
}

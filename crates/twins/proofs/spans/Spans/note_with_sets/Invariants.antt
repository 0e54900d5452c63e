use Rattle.std.proofs.Common.{◌≡◌, ℕ, None, Some, length, get_or}
use Rattle.std.specs.List.{All}
use Rattle.twins.specs.AreSpans.{IsMade, IsOfWeight, IsSpan}
use Rattle.twins.proofs.spans.Spans.note_with_sets.Given as goal

abbrev pub invariant-loop-at : goal.invariant-loop-at
invariant-loop-at l = record {
  each : All (IsSpan l.offers) l.self.items;
  places : length l.self.places.items ≡ l.at;
  made : (at place : ℕ) → get_or l.self.places.items at None ≡ Some place → IsMade l.offers l.self.sets.items at place;
  at_hand : All (IsOfWeight l.offers) l.self.sets.items;
}

use Rattle.std.proofs.Common.{◌≡◌, ℕ, None, [], length, get_or}
use Rattle.std.specs.List.{All}
use Rattle.twins.specs.AreSpans.{IsSpan}
use Rattle.twins.proofs.spans.Spans.note_ranges.Given as goal

abbrev pub invariant-loop-at : goal.invariant-loop-at
invariant-loop-at l = record {
  each : All (IsSpan l.offers) l.self.items;
  places : length l.self.places.items ≡ l.at;
  none : (at : ℕ) → get_or l.self.places.items at None ≡ None;
  sets : l.self.sets.items ≡ [];
}

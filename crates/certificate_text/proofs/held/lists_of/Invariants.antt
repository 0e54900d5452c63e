use Rattle.std.proofs.Common.{take, ◌≡◌}
use Rattle.certificate_text.specs.Held.{sets_of, values_of}
use Rattle.certificate_text.proofs.held.lists_of.Given as goal

abbrev pub invariant-loop-at : goal.invariant-loop-at
invariant-loop-at l = record {
  sets : l.sets.items ≡ take l.at (sets_of l.held);
  values : l.values.items ≡ take l.at (values_of l.held);
}

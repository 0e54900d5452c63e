use Rattle.std.proofs.Common.{◌≡◌, true, ℕ, ◌⊎◌}
use Rattle.std.specs.FinSet as set
use Rattle.transport.specs.Blocks.{AreNoted, IsFirstIn}
use Rattle.transport.proofs.search.note_taken.Given as goal

abbrev pub invariant-loop-at : goal.invariant-loop-at
invariant-loop-at l = record {
  only : (cpu : ℕ) → set.contains l.taken_firsts cpu ≡ true → (set.contains l.initial.taken_firsts cpu ≡ true) ⊎ IsFirstIn l.firsts l.tree_classes.order.items cpu;
  all : AreNoted l.firsts l.initial.taken_firsts l.tree_classes.order.items l.from → AreNoted l.firsts l.taken_firsts l.tree_classes.order.items l.at;
}

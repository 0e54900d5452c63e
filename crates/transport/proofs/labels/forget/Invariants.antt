use Rattle.std.proofs.Common.{◌≡◌, length}
use Rattle.transport.specs.Searches.{AreNeverDue}
use Rattle.transport.proofs.Clearing.{Forgetting}
use Rattle.transport.proofs.labels.forget.Given as goal

abbrev pub invariant-loop-class : goal.invariant-loop-class
invariant-loop-class l = record {
  forgetting : Forgetting l.initial.of_class l.of_class l.classes l.class-index;
  long : length l.due ≡ length l.initial.due;
  never : AreNeverDue l.initial.of_class l.initial.due → AreNeverDue l.of_class l.due;
}

use Rattle.transport.specs.Representatives.{IsIndex}
use Rattle.transport.proofs.instance.Representatives.new.Given as goal

abbrev pub invariant-loop-class : goal.invariant-loop-class
invariant-loop-class l = IsIndex l.cpu-items l.set l.class_of.items l.class

use Rattle.std.proofs.Common.{IfSome}
use Rattle.cpu_set.specs.Members.{IsCpu}
use Rattle.twins.specs.IsDeal.{IsMoved, IsFirst}
use Rattle.twins.proofs.dealing.move_lowest.Given as goal

abbrev pub invariant-loop : goal.invariant-loop
invariant-loop l = record {
  moved : IsMoved l.fn.rest l.rest l.fn.own l.own l.counter;
  first : IsFirst l.rest l.next;
  in_range : IfSome l.next (λ n. IsCpu n);
}

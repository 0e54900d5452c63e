use Rattle.std.proofs.Common.{take, IfSome}
use Rattle.cpu_set.specs.Members.{IsCpu}
use Rattle.twins.specs.IsDeal.{IsFirst}
use Rattle.twins.proofs.Deals.{Dealing, last_row}
use Rattle.twins.proofs.dealing.deal_in_order.Given as goal

abbrev pub invariant-loop-share : goal.invariant-loop-share
invariant-loop-share l = record {
  dealing : Dealing l.fn.class (take l.share-index l.shares) l.fn.sets l.sets l.rest (last_row l.shares l.share-index);
  first : IsFirst l.rest l.next;
  in_range : IfSome l.next (λ n. IsCpu n);
}

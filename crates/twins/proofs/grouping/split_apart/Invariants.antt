use Rattle.std.proofs.Common.{◌≡◌, ◌+◌, IfSome, MatchOption, get_or}
use Rattle.cpu_set.specs.Ids.{NoneFrom, IsFirstFrom}
use Rattle.cpu_set.specs.Members.{IsCpu}
use Rattle.std.specs.FinSet as set
use Rattle.twins.specs.AreSpans.{AreSpans}
use Rattle.twins.specs.Settled.{IsSettling}
use Rattle.twins.proofs.Splitting.{Splitting}
use Rattle.twins.proofs.grouping.split_apart.Given as goal

abbrev pub invariant-loop-next : goal.invariant-loop-next
invariant-loop-next l = record {
  spans : AreSpans l.offers l.spans;
  settling : IsSettling l.rows l.k l.settling;
  waiting : l.parts.waiting ≡ l.fn.parts.waiting;
  first : MatchOption l.next (NoneFrom l.rest 0) (λ n. IsFirstFrom l.rest 0 n);
  in_range : IfSome l.next (λ n. IsCpu n);
  splitting : Splitting l.rows (l.k + 1) (get_or l.fn.parts.waiting l.at set.empty) l.rest l.fn.parts.done l.fn.alone.items l.parts.done l.alone.items;
}

abbrev pub decreases-loop-next : goal.decreases-loop-next
decreases-loop-next l = set.len l.rest

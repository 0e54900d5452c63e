use Rattle.cpuset_tree.proofs.RefreshLemmas.{IsRefreshing}
use Rattle.cpuset_tree.proofs.refresh.refresh.Given as goal

abbrev pub invariant-loop-place : goal.invariant-loop-place
invariant-loop-place l = IsRefreshing l.resource l.fn.groups l.groups l.top l.written l.order.items l.place

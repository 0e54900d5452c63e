use Rattle.cpu_set.specs.Ids.{Ids}
use Rattle.cpu_set.specs.RangesFrom.{ranges_from}
use Rattle.std.proofs.Common.{length, take, ◌++◌, ◌+◌, ◌-◌, ◌≡◌, ◌≤◌}
use Rattle.tagged_sets.specs.CutOut.{IsCut, IsRun}
use Rattle.tagged_sets.proofs.cuts.add_cut.Given as goal

-- the pieces before the next number are added
abbrev pub invariant-loop-next : goal.invariant-loop-next
invariant-loop-next l = record {
  after : l.fn.range.0 ≤ l.next;
  before : l.next ≤ l.fn.range.1 + 1;
  run : IsRun l.without l.next l.run.first l.run.end;
  there : take (length l.fn.ranges.items) l.ranges.items ≡ l.fn.ranges.items;
  added : (t : Ids) → IsCut t l.without l.fn.range.0 l.fn.range.1 → l.ranges.items ++ ranges_from t l.next ≡ l.fn.ranges.items ++ ranges_from t l.fn.range.0;
}

abbrev pub decreases-loop-next : goal.decreases-loop-next
decreases-loop-next l = l.fn.range.1 + 1 - l.next

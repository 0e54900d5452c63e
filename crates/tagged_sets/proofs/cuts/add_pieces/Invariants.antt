use Rattle.cpu_set.specs.RangesFrom.{ranges_from}
use Rattle.std.proofs.Common.{length, take, ◌++◌, ◌-◌, ◌≡◌, ◌≤◌}
use Rattle.std.specs.FinSet as set
use Rattle.tagged_sets.proofs.Pieces.{past}
use Rattle.tagged_sets.specs.CutOut.{IsRun}
use Rattle.tagged_sets.specs.Tagged.{ranges_of_set, set_of_ranges}
use Rattle.tagged_sets.proofs.cuts.add_pieces.Given as goal

-- what is added, and the ranges behind those that were met, are the ranges without the numbers
abbrev pub invariant-loop-rest : goal.invariant-loop-rest
invariant-loop-rest l = record {
  place : l.at ≤ length l.more;
  run : IsRun l.without (past 0 l.more l.at) l.run.first l.run.end;
  there : take (length l.fn.ranges.items) l.ranges.items ≡ l.fn.ranges.items;
  added : l.ranges.items ++ ranges_from (set.difference (set_of_ranges l.more) l.without) (past 0 l.more l.at)
      ≡ l.fn.ranges.items ++ ranges_of_set (set.difference (set_of_ranges l.more) l.without);
}

abbrev pub decreases-loop-rest : goal.decreases-loop-rest
decreases-loop-rest l = length l.more - l.at

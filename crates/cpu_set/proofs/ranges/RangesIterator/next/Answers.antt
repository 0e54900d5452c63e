use Rattle.std.proofs.Common.{◌∙◌, sym, ap}
use Rattle.cpu_set.specs.RangesFrom.{ranges_left}
use Rattle.cpu_set.specs.SetRangeLaws.{range_found, ranges_next, one_fewer}
use Rattle.cpu_set.proofs.ranges.RangesIterator.next.Goals as goal

pub returns-clause-steps : goal.returns-clause-steps
returns-clause-steps c =
    let e = c.in_ok-first.was in
    sym c.self.view_is ∙ ap (ranges_left c.self.inside.set) e
    ∙ ranges_next _ _ _ _ (range_found _ _ _ _ _ c.self.invariant.lacks (rw e at c.self.invariant.in_range) (rw e at c.self.invariant.member) c.next_after.ensures.first c.next_after.ensures.in_range c.unwrap_or-last.ensures)
    c.next_after-self-inside.ensures.first c.next_after-self-inside.ensures.in_range

pub returns-clause-goes : goal.returns-clause-goes
returns-clause-goes c = record {
  on = λ _. (tt, tt, one_fewer _ _ _ (returns-clause-steps c));
  keeps = tt;
  rests = λ _. tt;
}

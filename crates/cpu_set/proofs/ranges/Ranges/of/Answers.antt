use Rattle.cpu_set.specs.SetRangeLaws.{ranges_first}
use Rattle.cpu_set.proofs.ranges.Ranges.of.Goals as goal

pub returns : goal.returns
returns c = ranges_first _ _ c.first.ensures.first c.first.ensures.in_range

use Rattle.direct_finish.specs.FollowerLemmas.{followers_leave, each_step_follows}
use Rattle.direct_finish.specs.SeldomLemmas.{finishes_write_seldom, finishes_write_once}
use Rattle.direct_finish.specs.FinishesToldLemmas.{finishes_are_told}
use Rattle.direct_finish.proofs.laws.each_write.Goals as goal

pub returns : goal.returns
returns c = record {
  leaves = followers_leave;
  steps = each_step_follows;
  seldom = finishes_write_seldom;
  once = finishes_write_once;
  told = finishes_are_told;
}

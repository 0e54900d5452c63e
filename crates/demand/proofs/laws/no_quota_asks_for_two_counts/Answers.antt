use Rattle.demand.proofs.Rounding.{is_one_count}
use Rattle.demand.proofs.laws.no_quota_asks_for_two_counts.Goals as goal

pub returns : goal.returns
returns c = is_one_count

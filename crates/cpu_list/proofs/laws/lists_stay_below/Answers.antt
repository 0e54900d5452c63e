use Rattle.cpu_list.proofs.Below.{list_is_below}
use Rattle.cpu_list.proofs.laws.lists_stay_below.Goals as goal

pub returns : goal.returns
returns c = list_is_below

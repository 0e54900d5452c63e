use Rattle.twins.proofs.TwinLaws.{members_weigh}
use Rattle.twins.proofs.laws.members_weigh_the_same.Goals as goal

pub returns : goal.returns
returns c = members_weigh

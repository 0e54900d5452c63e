use Rattle.twins.proofs.TwinLaws.{deal_is_dealt}
use Rattle.twins.proofs.laws.deals_of_twins_are_dealt.Goals as goal

pub returns : goal.returns
returns c = deal_is_dealt

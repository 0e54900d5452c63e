use Rattle.std.proofs.Common.{not, ap, ◌∙◌}
use Rattle.cpu_set.specs.Ids.{is_empty}
use Rattle.apply_plan.specs.SetMemberLaws.{tells_empty}
use Rattle.apply_plan.proofs.giving.has_place.Goals as goal

pub returns : goal.returns
returns g c = ap not (tells_empty c.is_empty.result c.least.result c.is_empty.ensures.0 c.is_empty.ensures.1 ∙ ap is_empty c.least.ensures)

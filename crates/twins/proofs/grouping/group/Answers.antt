use Rattle.twins.proofs.Few.{few_classes}
use Rattle.twins.proofs.grouping.group.Goals as goal

pub returns-clause-few : goal.returns-clause-few
returns-clause-few c = few_classes c.as_slice.result.now c.in_ok-sets.sets.items c.in_ok-sets.ensures

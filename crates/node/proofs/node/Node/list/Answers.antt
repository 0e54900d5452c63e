use Rattle.std.proofs.Common.{refl}
use Rattle.node.proofs.CallLemmas.{list_seen}
use Rattle.node.proofs.node.Node.list.Goals as goal

pub returns : goal.returns
returns g c = list_seen _ _ c.self.view_is c.iter.result c.self.inside.containers.entries c.iter.ensures.rest refl

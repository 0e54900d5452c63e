use Rattle.std.proofs.Common.{sym}
use Rattle.node.specs.Viewed.{viewed}
use Rattle.node.proofs.CallLemmas.{group_there, sets_seen}
use Rattle.node.proofs.node.Node.sets.Goals as goal

pub sets_of-requires : goal.sets_of-requires
sets_of-requires g c = group_there _ c.self.invariant.node c.args.id.now (viewed c.in-Some.container.now) (sym c.in-Some.ensures)

pub returns-in-Some : goal.returns-in-Some
returns-in-Some g c = sets_seen _ _ c.self.view_is c.args.id.now (viewed c.in-Some.container.now) (sym c.in-Some.ensures) c.sets_of.result c.sets_of.ensures

use Rattle.std.proofs.Common.{sym}
use Rattle.node.specs.Viewed.{viewed}
use Rattle.node.proofs.CallLemmas.{state_seen}
use Rattle.node.proofs.node.Node.state.Goals as goal

pub returns-in-Ok : goal.returns-in-Ok
returns-in-Ok g c = state_seen _ _ c.self.view_is c.args.id.now (viewed c.in-Some.container.now) (sym c.in-Some.ensures) c.in-Ok.text c.in-Ok.ensures

use Rattle.std.proofs.Common.{sym}
use Rattle.node.specs.Viewed.{viewed}
use Rattle.node.proofs.NodeLemmas.{end_node}
use Rattle.node.proofs.CallLemmas.{kill_dead, kill_refused, kill_done}
use Rattle.node.proofs.node.Node.kill_body.Goals as goal

pub returns-then-not-first_alive : goal.returns-then-not-first_alive
returns-then-not-first_alive g c =
    kill_dead _ _ c.self.view_is c.args.id.now c.args.signal.now (sym c.if-not-is_ending.ensures) (viewed c.in-Some.container.now) (sym c.in-Some.ensures) (sym c.if-not-first_alive.ensures)

pub invariant_of-self : goal.invariant_of-self
invariant_of-self g c = record {
  node = end_node _ c.self.invariant.node _ _ _ c.end_group.ensures;
  cpus = c.self.invariant.cpus;
}

pub returns-in-Err : goal.returns-in-Err
returns-in-Err g c =
    kill_refused _ _ c.self.view_is c.args.id.now c.args.signal.now (sym c.if-not-is_ending.ensures) (viewed c.in-Some.container.now) (sym c.in-Some.ensures) (sym c.if-not-first_alive.ensures)
    (g.K.Kernel.state c.end_group.new.self) c.self.invariant.node c.in-Err.fault c.in-Err.ensures

pub invariant_of-self-2 : goal.invariant_of-self-2
invariant_of-self-2 g c = record {
  node = end_node _ c.self.invariant.node _ _ _ c.end_group.ensures;
  cpus = c.self.invariant.cpus;
}

pub returns : goal.returns
returns g c =
    kill_done _ _ c.self.view_is c.args.id.now c.args.signal.now (sym c.if-not-is_ending.ensures) (viewed c.in-Some.container.now) (sym c.in-Some.ensures) (sym c.if-not-first_alive.ensures)
    (g.K.Kernel.state c.end_group.new.self) c.in_default-end_group.ensures

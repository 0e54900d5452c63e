use Rattle.std.proofs.Common.{sym}
use Rattle.node.specs.Viewed.{viewed}
use Rattle.node.proofs.NodeLemmas.{remove_refused_node}
use Rattle.node.proofs.CallLemmas.{delete_live, delete_refused, delete_done, delete_node}
use Rattle.node.proofs.node.Node.delete_body.Goals as goal

pub returns-then-first_alive : goal.returns-then-first_alive
returns-then-first_alive g c =
    delete_live _ _ c.self.view_is c.args.id.now (sym c.if-is_underway.ensures) (viewed c.in-Some.container.now) (sym c.in-Some.ensures) (sym c.if-first_alive.ensures)

pub invariant_of-self : goal.invariant_of-self
invariant_of-self g c = record {
  node = remove_refused_node _ c.self.invariant.node _ _ _ c.in-Err.ensures;
  cpus = c.self.invariant.cpus;
}

pub returns-in-Err : goal.returns-in-Err
returns-in-Err g c =
    delete_refused _ _ c.self.view_is c.args.id.now (sym c.if-is_underway.ensures) (viewed c.in-Some.container.now) (sym c.in-Some.ensures) (sym c.if-first_alive.ensures)
    (g.K.Kernel.state c.remove_group.new.self) c.self.invariant.node c.in-Err.fault c.in-Err.ensures

pub invariant_of-self-2 : goal.invariant_of-self-2
invariant_of-self-2 g c = record {
  node = delete_node _ _ c.self.view_is c.args.id.now (sym c.if-is_underway.ensures) (viewed c.in-Some.container.now) (sym c.in-Some.ensures) (sym c.if-first_alive.ensures)
      (g.K.Kernel.state c.remove_group.new.self) _ c.take_out.ensures c.in_default-remove_group.ensures c.self.invariant.node;
  cpus = c.self.invariant.cpus;
}

pub returns : goal.returns
returns g c =
    delete_done _ _ c.self.view_is c.args.id.now (sym c.if-is_underway.ensures) (viewed c.in-Some.container.now) (sym c.in-Some.ensures) (sym c.if-first_alive.ensures)
    (g.K.Kernel.state c.remove_group.new.self) _ c.take_out.ensures c.in_default-remove_group.ensures

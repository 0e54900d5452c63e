use Rattle.std.proofs.Common.{sym}
use Rattle.node.specs.Viewed.{viewed}
use Rattle.node.proofs.CallLemmas.{start_not_created, start_not_runnable, start_done, start_node}
use Rattle.node.proofs.node.Node.start.Goals as goal

pub returns-then-not-is_created : goal.returns-then-not-is_created
returns-then-not-is_created g c = start_not_created _ _ c.self.view_is c.args.id.now (viewed c.in-Some.container.now) (sym c.in-Some.ensures) (sym c.if-not-is_created.ensures)

pub returns-then-not-container : goal.returns-then-not-container
returns-then-not-container g c =
    start_not_runnable _ _ c.self.view_is c.args.id.now (viewed c.in-Some.container.now) (sym c.in-Some.ensures) (sym c.if-not-is_created.ensures) c.if-not-container.true

pub invariant_of-self : goal.invariant_of-self
invariant_of-self g c = record {
  node = start_node _ _ c.self.view_is c.args.id.now (viewed c.in-Some.container.now) (sym c.in-Some.ensures) _
      (c.mark_started.ensures (viewed c.in-Some.container.now) (sym c.in-Some.ensures)) c.self.invariant.node;
  cpus = c.self.invariant.cpus;
}

pub returns : goal.returns
returns g c =
    start_done _ _ c.self.view_is c.args.id.now (viewed c.in-Some.container.now) (sym c.in-Some.ensures) _
    (c.mark_started.ensures (viewed c.in-Some.container.now) (sym c.in-Some.ensures)) (sym c.if-not-is_created.ensures) c.if-not-container.false

use Rattle.std.proofs.Common.{sym}
use Rattle.node.specs.Viewed.{viewed}
use Rattle.node.proofs.CallLemmas.{group_there}
use Rattle.node.proofs.RewriteLemmas.{update_dead, update_wants, update_short, update_refused, refused_update_node, update_done, update_node}
use Rattle.node.proofs.node.Node.update_body.Goals as goal

pub rewrite-requires : goal.rewrite-requires
rewrite-requires g c = group_there _ c.self.invariant.node c.args.id.now (viewed c.in-Some.container.now) (sym c.in-Some.ensures)

pub returns-then-not-first_alive : goal.returns-then-not-first_alive
returns-then-not-first_alive g c =
    update_dead _ _ c.self.view_is c.args.id.now c.args.bundle.now c.args.config.now (sym c.if-is_underway.ensures) (viewed c.in-Some.container.now) (sym c.in-Some.ensures) (sym c.if-not-first_alive.ensures)

pub returns-in-Err : goal.returns-in-Err
returns-in-Err g c =
    update_wants _ _ c.self.view_is c.args.id.now c.args.bundle.now c.args.config.now (sym c.if-is_underway.ensures) (viewed c.in-Some.container.now) (sym c.in-Some.ensures) (sym c.if-not-first_alive.ensures)
    c.in-Err.error c.in-Err.ensures

pub returns-in-Err-from_str : goal.returns-in-Err-from_str
returns-in-Err-from_str g c =
    update_short _ _ c.self.view_is c.args.id.now c.args.bundle.now c.args.config.now (sym c.if-is_underway.ensures) (viewed c.in-Some.container.now) (sym c.in-Some.ensures) (sym c.if-not-first_alive.ensures)
    c.in-Ok.wanted.0 c.in-Ok.wanted.1 c.in-Ok.ensures

pub invariant_of-self : goal.invariant_of-self
invariant_of-self g c = record {
  node = refused_update_node _ _ c.self.view_is c.args.id.now c.args.bundle.now c.args.config.now (sym c.if-is_underway.ensures) (viewed c.in-Some.container.now) (sym c.in-Some.ensures) (sym c.if-not-first_alive.ensures)
      c.in-Ok.wanted.0 c.in-Ok.wanted.1 c.in-Ok.ensures (g.K.Kernel.state c.rewrite.new.kernel) c.reserved-reserved.result c.reserved-reserved.ensures.reserved
      c.self.invariant.node c.in-Err-rewrite.fault c.in-Err-rewrite.ensures;
  cpus = c.self.invariant.cpus;
}

pub returns-in-Err-rewrite : goal.returns-in-Err-rewrite
returns-in-Err-rewrite g c =
    update_refused _ _ c.self.view_is c.args.id.now c.args.bundle.now c.args.config.now (sym c.if-is_underway.ensures) (viewed c.in-Some.container.now) (sym c.in-Some.ensures) (sym c.if-not-first_alive.ensures)
    c.in-Ok.wanted.0 c.in-Ok.wanted.1 c.in-Ok.ensures (g.K.Kernel.state c.rewrite.new.kernel) c.reserved-reserved.result c.reserved-reserved.ensures.reserved
    c.self.invariant.node c.in-Err-rewrite.fault c.in-Err-rewrite.ensures

pub invariant_of-self-2 : goal.invariant_of-self-2
invariant_of-self-2 g c = record {
  node = update_node _ _ c.self.view_is c.args.id.now c.args.bundle.now c.args.config.now (sym c.if-is_underway.ensures) (viewed c.in-Some.container.now) (sym c.in-Some.ensures) (sym c.if-not-first_alive.ensures)
      c.in-Ok.wanted.0 c.in-Ok.wanted.1 c.in-Ok.ensures (g.K.Kernel.state c.rewrite.new.kernel) c.reserved-reserved.result c.reserved-reserved.ensures.reserved
      c.in_default-rewrite.ensures _ c.in-Ok-from_str.ensures.ok _ (c.replace.ensures (viewed c.in-Some.container.now) (sym c.in-Some.ensures)) c.self.invariant.node;
  cpus = c.self.invariant.cpus;
}

pub returns : goal.returns
returns g c =
    update_done _ _ c.self.view_is c.args.id.now c.args.bundle.now c.args.config.now (sym c.if-is_underway.ensures) (viewed c.in-Some.container.now) (sym c.in-Some.ensures) (sym c.if-not-first_alive.ensures)
    c.in-Ok.wanted.0 c.in-Ok.wanted.1 c.in-Ok.ensures (g.K.Kernel.state c.rewrite.new.kernel) c.reserved-reserved.result c.reserved-reserved.ensures.reserved
    c.in_default-rewrite.ensures _ c.in-Ok-from_str.ensures.ok _ (c.replace.ensures (viewed c.in-Some.container.now) (sym c.in-Some.ensures))

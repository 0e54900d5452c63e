use Rattle.std.proofs.Common.{sym, ap}
use Rattle.std.specs.Prelude.{Ok, Err, option_map}
use Rattle.node.proofs.OrderLemmas.{both_leave}
use Rattle.node.specs.Viewed.{seen_ongoing}
use Rattle.node.proofs.StepLemmas.{open_now, safe_now}
use Rattle.node.proofs.FinishLemmas.{finished, finished_node}
use Rattle.node.proofs.node.Node.finish.Goals as goal

pub finish-requires : goal.finish-requires
finish-requires g c =
    let was = sym (ap (option_map seen_ongoing) c.in-Some.ensures.value) in
    record {
      placed = (open_now both_leave _ c.self.invariant.node (seen_ongoing c.in-Some.ongoing) was).placed;
      safe = safe_now both_leave _ c.self.invariant.node (seen_ongoing c.in-Some.ongoing) was;
    }

pub invariant_of-self : goal.invariant_of-self
invariant_of-self g c = record {
  node = finished_node both_leave _ c.self.invariant.node (seen_ongoing c.in-Some.ongoing) (sym (ap (option_map seen_ongoing) c.in-Some.ensures.value))
      (g.K.Kernel.state c.finish.new.kernel) (Ok tt) (c.in-Ok.ensures c.in-Some.ongoing.requested_at_begin.items) (option_map seen_ongoing c.take.new.self) (ap (option_map seen_ongoing) c.take.ensures.after);
  cpus = c.self.invariant.cpus;
}

pub invariant_of-self-in-Err : goal.invariant_of-self-in-Err
invariant_of-self-in-Err g c = record {
  node = finished_node both_leave _ c.self.invariant.node (seen_ongoing c.in-Some.ongoing) (sym (ap (option_map seen_ongoing) c.in-Some.ensures.value))
      (g.K.Kernel.state c.finish.new.kernel) (Err c.in-Err.fault) (c.in-Err.ensures c.in-Some.ongoing.requested_at_begin.items) (option_map seen_ongoing c.take.new.self) (ap (option_map seen_ongoing) c.take.ensures.after);
  cpus = c.self.invariant.cpus;
}

pub returns-in-Ok : goal.returns-in-Ok
returns-in-Ok g c =
    finished both_leave _ c.self.invariant.node (seen_ongoing c.in-Some.ongoing) (sym (ap (option_map seen_ongoing) c.in-Some.ensures.value))
    (g.K.Kernel.state c.finish.new.kernel) (Ok tt) (c.in-Ok.ensures c.in-Some.ongoing.requested_at_begin.items) (option_map seen_ongoing c.take.new.self) (ap (option_map seen_ongoing) c.take.ensures.after)
    _ c.self.view_is

pub returns : goal.returns
returns g c =
    finished both_leave _ c.self.invariant.node (seen_ongoing c.in-Some.ongoing) (sym (ap (option_map seen_ongoing) c.in-Some.ensures.value))
    (g.K.Kernel.state c.finish.new.kernel) (Err c.in-Err.fault) (c.in-Err.ensures c.in-Some.ongoing.requested_at_begin.items) (option_map seen_ongoing c.take.new.self) (ap (option_map seen_ongoing) c.take.ensures.after)
    _ c.self.view_is

use Rattle.std.proofs.Common.{refl, sym, ap}
use Rattle.std.specs.Prelude.{Ok, Err, option_map}
use Rattle.apply_plan.specs.declared.Progress.TheVariants.{More, Done}
use Rattle.node.specs.declared.course.Course.{Course}
use Rattle.node.specs.declared.phase.Phase.TheVariants.{Settled, Unsettled}
use Rattle.node.specs.Viewed.{seen_by, seen_ongoing}
use Rattle.node.proofs.OrderLemmas.{both_leave, few_by}
use Rattle.node.proofs.StepLemmas.{few_to_come, open_now, kept_open, closed, went_on, came_to_end, answered}
use Rattle.node.proofs.node.Node.step_body.Goals as goal

pub step-requires : goal.step-requires
step-requires g c =
    (open_now both_leave _ c.self.invariant.node (seen_ongoing c.in-Some.ongoing) (sym (ap (option_map seen_ongoing) c.in-Some.ensures.value))).placed

pub invariant_of-self-in-Ok-More : goal.invariant_of-self-in-Ok-More
invariant_of-self-in-Ok-More g c =
    let found = c.in-Some.ongoing.requested_at_begin.items in
    record {
      node = kept_open both_leave _ c.self.invariant.node (seen_ongoing c.in-Some.ongoing) (sym (ap (option_map seen_ongoing) c.in-Some.ensures.value))
          (g.K.Kernel.state c.step.new.kernel) (Ok More)
          (answered _ _ (seen_ongoing c.in-Some.ongoing) _ _ _ More c.in-Ok-More.field-0-is (c.in-Ok-More.ensures.step found))
          (seen_by c.step.new.self found) (ap (λ (x : Course). seen_by x found) c.step.ensures.same);
      cpus = c.self.invariant.cpus;
    }

pub invariant_of-self-in-Done-1 : goal.invariant_of-self-in-Done-1
invariant_of-self-in-Done-1 g c = record {
  node = closed both_leave _ c.self.invariant.node (seen_ongoing c.in-Some.ongoing) (sym (ap (option_map seen_ongoing) c.in-Some.ensures.value))
      (g.K.Kernel.state c.step.new.kernel) (Ok Done)
      (answered _ _ (seen_ongoing c.in-Some.ongoing) _ _ _ Done c.in-Ok-Done.field-0-is (c.in-Ok-Done.ensures.step c.in-Some.ongoing.requested_at_begin.items))
      Settled refl (option_map seen_ongoing c.take.new.self) (ap (option_map seen_ongoing) c.take.ensures.after);
  cpus = c.self.invariant.cpus;
}

pub invariant_of-self-in-Err-1 : goal.invariant_of-self-in-Err-1
invariant_of-self-in-Err-1 g c = record {
  node = closed both_leave _ c.self.invariant.node (seen_ongoing c.in-Some.ongoing) (sym (ap (option_map seen_ongoing) c.in-Some.ensures.value))
      (g.K.Kernel.state c.step.new.kernel) (Err c.in-Err.fault) (c.in-Err.ensures.step c.in-Some.ongoing.requested_at_begin.items) Unsettled refl
      (option_map seen_ongoing c.take.new.self) (ap (option_map seen_ongoing) c.take.ensures.after);
  cpus = c.self.invariant.cpus;
}

pub returns-in-Ok-More : goal.returns-in-Ok-More
returns-in-Ok-More g c =
    let found = c.in-Some.ongoing.requested_at_begin.items in
    let o = seen_ongoing c.in-Some.ongoing in
    record {
      steps = went_on both_leave _ c.self.invariant.node o (sym (ap (option_map seen_ongoing) c.in-Some.ensures.value))
          (g.K.Kernel.state c.step.new.kernel) (Ok More) (answered _ _ o _ _ _ More c.in-Ok-More.field-0-is (c.in-Ok-More.ensures.step found)) _ c.self.view_is
          (seen_by c.step.new.self found) (ap (λ (x : Course). seen_by x found) c.step.ensures.same);
      few = few_to_come _ _ c.self.view_is o (sym (ap (option_map seen_ongoing) c.in-Some.ensures.value)) (few_by o.order o.targets _);
    }

pub returns-in-Ok-Done : goal.returns-in-Ok-Done
returns-in-Ok-Done g c =
    let found = c.in-Some.ongoing.requested_at_begin.items in
    let o = seen_ongoing c.in-Some.ongoing in
    record {
      steps = came_to_end both_leave _ c.self.invariant.node o (sym (ap (option_map seen_ongoing) c.in-Some.ensures.value))
          (g.K.Kernel.state c.step.new.kernel) (Ok Done) (answered _ _ o _ _ _ Done c.in-Ok-Done.field-0-is (c.in-Ok-Done.ensures.step found)) _ c.self.view_is Settled
          (option_map seen_ongoing c.take.new.self) (ap (option_map seen_ongoing) c.take.ensures.after);
      few = few_to_come _ _ c.self.view_is o (sym (ap (option_map seen_ongoing) c.in-Some.ensures.value)) (few_by o.order o.targets _);
    }

pub returns-in-Err : goal.returns-in-Err
returns-in-Err g c =
    let found = c.in-Some.ongoing.requested_at_begin.items in
    let o = seen_ongoing c.in-Some.ongoing in
    record {
      steps = came_to_end both_leave _ c.self.invariant.node o (sym (ap (option_map seen_ongoing) c.in-Some.ensures.value))
          (g.K.Kernel.state c.step.new.kernel) (Err c.in-Err.fault) (c.in-Err.ensures.step found) _ c.self.view_is Unsettled
          (option_map seen_ongoing c.take.new.self) (ap (option_map seen_ongoing) c.take.ensures.after);
      few = few_to_come _ _ c.self.view_is o (sym (ap (option_map seen_ongoing) c.in-Some.ensures.value)) (few_by o.order o.targets _);
    }

use Rattle.std.proofs.Common.{◌&&◌, sym, ap, ◌∙◌}
use Rattle.std.specs.FinSet as set
use Rattle.proctable.specs.Processes.{is_alive}
use Rattle.apply_plan.specs.DueWrite.{held, must_move}
use Rattle.apply_plan.specs.DirectWords.{lets_go}
use Rattle.apply_plan.specs.Overviews.{all_held, pinned_held, letting, moving}
use Rattle.apply_plan.specs.SetMemberLaws.{union_none, looked_at, all_of_them}
use Rattle.apply_plan.proofs.overview.Overview.of.Goals as goal

pub loop-entry-init : goal.loop-entry-init
loop-entry-init g c = record {
  in_held = ap (λ s. set.union s (all_held (g.K.Kernel.state c.args.kernel.now) c.args.reserved.now c.args.entries.now)) c.empty-none.ensures ∙ union_none (all_held (g.K.Kernel.state c.args.kernel.now) c.args.reserved.now c.args.entries.now);
  in_pinned = ap (λ s. set.union s (pinned_held (g.K.Kernel.state c.args.kernel.now) c.args.reserved.now c.args.entries.now)) c.empty-none.ensures ∙ union_none (pinned_held (g.K.Kernel.state c.args.kernel.now) c.args.reserved.now c.args.entries.now);
  in_letting = ap (λ s. set.union s (letting (g.K.Kernel.state c.args.kernel.now) c.args.reserved.now c.args.entries.now)) c.empty-none.ensures ∙ union_none (letting (g.K.Kernel.state c.args.kernel.now) c.args.reserved.now c.args.entries.now);
  in_moving = ap (λ s. set.union s (moving (g.K.Kernel.state c.args.kernel.now) c.args.reserved.now c.args.entries.now)) c.empty-none.ensures ∙ union_none (moving (g.K.Kernel.state c.args.kernel.now) c.args.reserved.now c.args.entries.now);
}

pub loop-entry-preserved : goal.loop-entry-preserved
loop-entry-preserved g c = record {
  in_held = looked_at (λ d. is_alive (g.K.Kernel.state c.args.kernel.now).table d.pid) (held (g.K.Kernel.state c.args.kernel.now)) c.loop-entry.seen.held _ c.args.entries.now c.loop-entry.entry-index c.entry-item.result c.loop-entry-test.true c.entry-item.is c.add.ensures.held c.loop-entry.invariant.in_held;
  in_pinned = looked_at (λ d. d.pinned && is_alive (g.K.Kernel.state c.args.kernel.now).table d.pid) (held (g.K.Kernel.state c.args.kernel.now)) c.loop-entry.seen.pinned _ c.args.entries.now c.loop-entry.entry-index c.entry-item.result c.loop-entry-test.true c.entry-item.is c.add.ensures.pinned c.loop-entry.invariant.in_pinned;
  in_letting = looked_at (λ d. d.pinned && lets_go (g.K.Kernel.state c.args.kernel.now) c.args.reserved.now d) (λ d. d.target) c.loop-entry.seen.letting _ c.args.entries.now c.loop-entry.entry-index c.entry-item.result c.loop-entry-test.true c.entry-item.is c.add.ensures.letting c.loop-entry.invariant.in_letting;
  in_moving = looked_at (λ d. d.pinned && must_move (g.K.Kernel.state c.args.kernel.now) d) (λ d. d.target) c.loop-entry.seen.moving _ c.args.entries.now c.loop-entry.entry-index c.entry-item.result c.loop-entry-test.true c.entry-item.is c.add.ensures.moving c.loop-entry.invariant.in_moving;
}

pub returns : goal.returns
returns g c = record {
  held = sym (all_of_them (λ d. is_alive (g.K.Kernel.state c.args.kernel.now).table d.pid) (held (g.K.Kernel.state c.args.kernel.now)) c.loop-entry.seen.held c.args.entries.now c.loop-entry.entry-index c.loop-entry-test.false) ∙ c.loop-entry.invariant.in_held;
  pinned = sym (all_of_them (λ d. d.pinned && is_alive (g.K.Kernel.state c.args.kernel.now).table d.pid) (held (g.K.Kernel.state c.args.kernel.now)) c.loop-entry.seen.pinned c.args.entries.now c.loop-entry.entry-index c.loop-entry-test.false) ∙ c.loop-entry.invariant.in_pinned;
  letting = sym (all_of_them (λ d. d.pinned && lets_go (g.K.Kernel.state c.args.kernel.now) c.args.reserved.now d) (λ d. d.target) c.loop-entry.seen.letting c.args.entries.now c.loop-entry.entry-index c.loop-entry-test.false) ∙ c.loop-entry.invariant.in_letting;
  moving = sym (all_of_them (λ d. d.pinned && must_move (g.K.Kernel.state c.args.kernel.now) d) (λ d. d.target) c.loop-entry.seen.moving c.args.entries.now c.loop-entry.entry-index c.loop-entry-test.false) ∙ c.loop-entry.invariant.in_moving;
}

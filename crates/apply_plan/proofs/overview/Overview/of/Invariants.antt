use Rattle.std.proofs.Common.{◌≡◌, ◌&&◌, drop}
use Rattle.std.specs.FinSet as set
use Rattle.proctable.specs.Processes.{is_alive}
use Rattle.apply_plan.specs.DueWrite.{held, must_move}
use Rattle.apply_plan.specs.DirectWords.{lets_go, all_of_those}
use Rattle.apply_plan.specs.Overviews.{all_held, pinned_held, letting, moving}
use Rattle.apply_plan.proofs.overview.Overview.of.Given as goal

-- all of it is in the sets so far, or with the entries that are left
abbrev pub invariant-loop-entry : goal.invariant-loop-entry
invariant-loop-entry g l = record {
  in_held : set.union l.seen.held (all_of_those (λ d. is_alive (g.K.Kernel.state l.kernel).table d.pid) (held (g.K.Kernel.state l.kernel)) (drop l.entry-index l.entries)) ≡ all_held (g.K.Kernel.state l.kernel) l.reserved l.entries;
  in_pinned : set.union l.seen.pinned (all_of_those (λ d. d.pinned && is_alive (g.K.Kernel.state l.kernel).table d.pid) (held (g.K.Kernel.state l.kernel)) (drop l.entry-index l.entries)) ≡ pinned_held (g.K.Kernel.state l.kernel) l.reserved l.entries;
  in_letting : set.union l.seen.letting (all_of_those (λ d. d.pinned && lets_go (g.K.Kernel.state l.kernel) l.reserved d) (λ d. d.target) (drop l.entry-index l.entries)) ≡ letting (g.K.Kernel.state l.kernel) l.reserved l.entries;
  in_moving : set.union l.seen.moving (all_of_those (λ d. d.pinned && must_move (g.K.Kernel.state l.kernel) d) (λ d. d.target) (drop l.entry-index l.entries)) ≡ moving (g.K.Kernel.state l.kernel) l.reserved l.entries;
}

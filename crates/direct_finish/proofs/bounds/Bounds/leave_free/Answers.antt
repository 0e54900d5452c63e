use Rattle.std.proofs.Common.{ap, ◌∙◌, subst}
use Rattle.std.specs.FinSet as set
use Rattle.cpu_set.specs.Ids.{Ids, IsDisjoint}
use Rattle.direct_finish.specs.BoundLemmas.{free_pinned, free_at_sight, free_shared}
use Rattle.direct_finish.proofs.bounds.Bounds.leave_free.Goals as goal

pub returns-then-not-entry : goal.returns-then-not-entry
returns-then-not-entry g c = λ t.
    free_shared (g.K.Kernel.state c.args.kernel.now) c.args.reserved.now c.args.entries.now c.requires.valid c.args.entry.now c.requires.at c.args.self.now c.requires.bounded
    c.if-not-entry.true (subst (λ (s : Ids). IsDisjoint s c.args.entry.now.target) c.own.ensures (c.is_disjoint.ensures.0 t))

pub returns-then-is_disjoint : goal.returns-then-is_disjoint
returns-then-is_disjoint g c = λ t.
    free_at_sight (g.K.Kernel.state c.args.kernel.now) c.args.reserved.now c.args.entries.now c.requires.valid c.args.entry.now c.requires.at c.args.self.now c.requires.bounded
    (c.is_disjoint-2.ensures.0 c.if-is_disjoint.true)

pub returns : goal.returns
returns g c = λ t.
    free_pinned (g.K.Kernel.state c.args.kernel.now) c.args.reserved.now c.args.entries.now c.requires.valid c.args.entry.now c.requires.at c.args.self.now c.requires.bounded
    (subst (λ (s : Ids). IsDisjoint s c.args.entry.now.target) (c.minus-others.ensures ∙ ap (set.difference c.args.self.now.held) c.requested.ensures) (c.is_disjoint-3.ensures.0 t))

use Rattle.std.proofs.lemmas.Bool.{ne_eqb}
use Rattle.apply_plan.proofs.MarkLemmas.{ring_begins, ring_goes_on, ring_ends}
use Rattle.apply_plan.proofs.ring_marks.mark_ring.Goals as goal

pub loop-step-init : goal.loop-step-init
loop-step-init c = ring_begins c.args.nexts.now c.args.marks.now c.args.place c.requires.within c.requires.room c.requires.ring c.requires.closed

pub loop-step-preserved : goal.loop-step-preserved
loop-step-preserved c =
    ring_goes_on c.args.nexts.now c.args.marks.now c.loop-step.marks c.put.new.marks c.args.place c.loop-step.at c.loop-step._step c.loop-step.invariant c.put.ensures
    c.loop-step-test.true (ne_eqb _ c.args.place c.if-at-place.false)

pub returns : goal.returns
returns c = absurd (ring_ends c.args.nexts.now c.args.marks.now c.loop-step.marks c.args.place c.loop-step.at c.loop-step._step c.loop-step.invariant c.loop-step-test.false)

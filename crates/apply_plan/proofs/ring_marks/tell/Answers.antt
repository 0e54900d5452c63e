use Rattle.std.proofs.Common.{sym, ◌∙◌, inl, inr}
use Rattle.apply_plan.proofs.MarkLemmas.{none_closed, ring_closed}
use Rattle.apply_plan.proofs.ring_marks.tell.Goals as goal

pub returns-then-not-may_close-clause-marked : goal.returns-then-not-may_close-clause-marked
returns-then-not-may_close-clause-marked c =
    none_closed c.args.nexts.now c.args.marks.now c.args.number c.args.at c.requires.number c.requires.followed (inl (sym c.may_close.ensures ∙ c.if-not-may_close.true))

pub returns-then-stands_in_ring-clause-marked : goal.returns-then-stands_in_ring-clause-marked
returns-then-stands_in_ring-clause-marked c =
    ring_closed c.args.nexts.now c.args.marks.now c.args.number c.args.at c.requires.number c.requires.followed c.mark_ring.new.marks c.mark_ring.ensures

pub returns-else-stands_in_ring-clause-marked : goal.returns-else-stands_in_ring-clause-marked
returns-else-stands_in_ring-clause-marked c =
    none_closed c.args.nexts.now c.args.marks.now c.args.number c.args.at c.requires.number c.requires.followed (inr (sym c.stands_in_ring.ensures ∙ c.if-stands_in_ring.false))

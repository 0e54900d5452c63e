use Rattle.apply_plan.proofs.MarkLemmas.{begins}
use Rattle.apply_plan.proofs.ring_marks.follow_all.Goals as goal

pub follow-at-requires-clause-followed : goal.follow-at-requires-clause-followed
follow-at-requires-clause-followed c = begins c.args.nexts.now c.args.marks.now c.args.number c.args.place c.requires.number c.requires.marked

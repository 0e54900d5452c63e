use Rattle.apply_plan.proofs.MarkLemmas.{followed}
use Rattle.apply_plan.proofs.ring_marks.follow.Goals as goal

pub returns-clause-followed : goal.returns-clause-followed
returns-clause-followed c =
    followed c.args.nexts.now c.args.marks.now c.put.new.marks c.args.number c.args.at c.requires.number c.requires.within c.requires.unknown c.put.ensures c.requires.followed

use Rattle.std.proofs.Common.{ℕ, List, subst, sym}
use Rattle.cpuset_tree.specs.Kept.{AreSameBut}
use Rattle.cpuset_tree.proofs.MarkLemmas.{AreSameBut-pushed}
use Rattle.cpuset_tree.proofs.marks.note_mark.Goals as goal

pub loop-marks-preserved : goal.loop-marks-preserved
loop-marks-preserved c =
    AreSameBut-pushed c.args.key 0 c.args.marks.now.items c.loop-marks.marks.items c.push.new.self.items c.loop-marks.invariant c.in_ok-push.ensures.items

pub returns-in_err-push-clause-others : goal.returns-in_err-push-clause-others
returns-in_err-push-clause-others c =
    subst (λ (l : List ℕ). AreSameBut c.args.key c.args.marks.now.items l) (sym c.in_err-push.ensures.items) c.loop-marks.invariant

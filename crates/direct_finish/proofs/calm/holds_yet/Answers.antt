use Rattle.std.proofs.Common.{sym, ◌∙◌, subst}
use Rattle.cpu_set.specs.PointwiseLaws.{is_same_decides}
use Rattle.direct_finish.specs.Seen.{IsHeldYet}
use Rattle.direct_finish.specs.SeenLemmas.{alike_if}
use Rattle.direct_finish.proofs.calm.holds_yet.Goals as goal

pub returns-in-Some : goal.returns-in-Some
returns-in-Some c = λ t.
    subst (IsHeldYet c.args.reserved.now c.args.seen.now) (sym c.in-Some.is)
    (alike_if c.args.reserved.now c.in-Some.held c.args.seen.now.held
    (sym c.minus.ensures ∙ (is_same_decides _ _).0 (sym c.eq.ensures ∙ t) ∙ c.minus-in-Some.ensures))

use Rattle.std.proofs.Common.{◌<◌, length, map, sym, ap, ◌∙◌, subst, arith}
use Rattle.std.specs.Prelude.{All}
use Rattle.certificate.specs.IsShortage.{IsShortage}
use Rattle.transport.specs.Solved.{IsRight}
use Rattle.blame.specs.Parts.{number_at, AreSetsOf, IsShortageOf}
use Rattle.blame.proofs.PartLemmas.{sets_of_plan}
use Rattle.blame.proofs.ShortLemmas.{short_of_part}
use Rattle.blame.proofs.part.solve_part.Goals as goal

pub returns-in-Plan : goal.returns-in-Plan
returns-in-Plan c =
    let right = subst (IsRight c.in_ok-part.part) c.in-Plan.is c.in_ok-answer.ensures.right in
    subst (AreSetsOf c.args.rows.now c.args.numbers.now c.args.root c.args.demand) (sym c.plan.view_is)
    (sets_of_plan c.args.rows.now c.args.numbers.now c.args.root c.args.demand c.in_ok-part.part c.in-Plan.plan c.in_ok-part.ensures.part right.plan)

pub numbers_at-requires : goal.numbers_at-requires
numbers_at-requires c =
    let right : IsShortage c.in_ok-part.part c.in-Short.members.items = subst (IsRight c.in_ok-part.part) c.in-Short.is c.in_ok-answer.ensures.right in
    subst (λ ks. All (λ i. i < length c.args.numbers.now) ks) (sym c.deref.ensures.value)
    (λ i d lt. omega (arith, right.there i d lt, c.in_ok-part.ensures.part.long))

pub returns : goal.returns
returns c =
    let right : IsShortage c.in_ok-part.part c.in-Short.members.items = subst (IsRight c.in_ok-part.part) c.in-Short.is c.in_ok-answer.ensures.right in
    subst (IsShortageOf c.args.rows.now c.args.numbers.now) (sym (c.in_ok-short-in-Short.ensures ∙ ap (map (number_at c.args.numbers.now)) c.deref.ensures.value))
    (short_of_part c.args.rows.now c.args.numbers.now c.args.root c.args.demand c.in_ok-part.part c.in_ok-part.ensures.part c.requires.less c.in-Short.members.items
    c.requires.rising c.requires.there right)

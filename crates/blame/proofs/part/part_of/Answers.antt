use Rattle.std.proofs.Common.{◌+◌, length, get_or, refl, sym, ◌∙◌, subst, arith}
use Rattle.certificate.specs.RisingNumberLaws.{few_numbers}
use Rattle.blame.proofs.PartLemmas.{IsPartUpTo, part_more}
use Rattle.blame.proofs.part.part_of.Goals as goal

pub loop-k-preserved : goal.loop-k-preserved
loop-k-preserved c =
    subst (IsPartUpTo c.args.rows.now c.args.numbers.now c.args.root c.args.demand (c.loop-k.k-index + 1)) (sym c.in_ok-push.ensures.items)
    (part_more c.args.rows.now c.args.numbers.now c.args.root c.args.demand c.loop-k.k-index c.loop-k.part.items (get_or c.args.numbers.now c.loop-k.k-index 0) c.index-rows-k.result
    c.in_ok-alike.alike c.loop-k.invariant refl (c.requires.there c.loop-k.k-index 0 c.loop-k-test.true) c.index-rows-k.is
    (c.in_ok-alike.ensures.demand ∙ c.asked_at-asked.ensures) c.in_ok-alike.ensures.may c.in_ok-alike.ensures.within)

pub returns-clause-fit : goal.returns-clause-fit
returns-clause-fit c =
    let few = few_numbers c.args.numbers.now (length c.args.rows.now) c.requires.rising c.requires.there in
    (c.what_is_within_the_limits.ensures.rows c.loop-k.part.items).1
    (record { few = omega (arith, c.loop-k.invariant.long, c.loop-k.auto.k-index-end, few, c.requires.fit.few); each = c.loop-k.invariant.within })

use Rattle.certificate.specs.declared.limits.TheConstants.{MAX_WEIGHT}
use Rattle.certificate.specs.declared.rows.Offer.{Offer}
use Rattle.std.proofs.Common.{arith, get_or, length, nat_le, sym, ◌<◌, ◌∙◌, ◌≤◌}
use Rattle.std.proofs.lemmas.Bool.{le-leb, leb-true, false_from_ne_true, and_from}
use Rattle.std.proofs.lemmas.List.Folds.{list_all_more}
use Rattle.std.proofs.lemmas.List.Sums.{AllPass-from_list_all}
use Rattle.std.specs.FinSet as set
use Rattle.certificate.proofs.limit_checks.weights_fit.Goals as goal

none : Offer
none = record { weight = 0; cpus = set.empty }

pub loop-at-preserved : goal.loop-at-preserved
loop-at-preserved c =
    let lt : c.loop-at.at < length c.args.offers.now = omega (arith, c.len-at-end.ensures, c.loop-at-test.true) in
    list_all_more (λ (x : Offer). nat_le x.weight MAX_WEIGHT) c.args.offers.now c.loop-at.at none lt
    ∙ and_from _ _ c.loop-at.invariant (le-leb _ _ (omega (arith, c.weight.ensures none, c.if-weight-gt-MAX_WEIGHT.false)))

pub returns-then-weight-gt-MAX_WEIGHT : goal.returns-then-weight-gt-MAX_WEIGHT
returns-then-weight-gt-MAX_WEIGHT c =
    let lt : c.loop-at.at < length c.args.offers.now = omega (arith, c.len-at-end.ensures, c.loop-at-test.true) in
    sym (false_from_ne_true _ (λ all.
    let le : (get_or c.args.offers.now c.loop-at.at none).weight ≤ MAX_WEIGHT = leb-true _ _ (AllPass-from_list_all (λ (x : Offer). nat_le x.weight MAX_WEIGHT) c.args.offers.now all c.loop-at.at none lt) in
    absurd (omega (arith, le, c.weight.ensures none, c.if-weight-gt-MAX_WEIGHT.true))))

use Rattle.certificate.specs.declared.limits.TheConstants.{MAX_AMOUNT}
use Rattle.certificate.specs.declared.price_lists.Price.{Price}
use Rattle.std.proofs.Common.{arith, get_or, length, nat_le, sym, ◌<◌, ◌∙◌, ◌≤◌}
use Rattle.std.proofs.lemmas.Bool.{le-leb, leb-true, false_from_ne_true, and_from}
use Rattle.std.proofs.lemmas.List.Folds.{list_all_more}
use Rattle.std.proofs.lemmas.List.Sums.{AllPass-from_list_all}
use Rattle.std.specs.FinSet as set
use Rattle.certificate.proofs.limit_checks.amounts_fit.Goals as goal

none : Price
none = record { amount = 0; cpus = set.empty }

pub loop-at-preserved : goal.loop-at-preserved
loop-at-preserved c =
    let lt : c.loop-at.at < length c.args.prices.now = omega (arith, c.len-at-end.ensures, c.loop-at-test.true) in
    list_all_more (λ (x : Price). nat_le x.amount MAX_AMOUNT) c.args.prices.now c.loop-at.at none lt
    ∙ and_from _ _ c.loop-at.invariant (le-leb _ _ (omega (arith, c.amount.ensures none, c.if-amount-gt-MAX_AMOUNT.false)))

pub returns-then-amount-gt-MAX_AMOUNT : goal.returns-then-amount-gt-MAX_AMOUNT
returns-then-amount-gt-MAX_AMOUNT c =
    let lt : c.loop-at.at < length c.args.prices.now = omega (arith, c.len-at-end.ensures, c.loop-at-test.true) in
    sym (false_from_ne_true _ (λ all.
    let le : (get_or c.args.prices.now c.loop-at.at none).amount ≤ MAX_AMOUNT = leb-true _ _ (AllPass-from_list_all (λ (x : Price). nat_le x.amount MAX_AMOUNT) c.args.prices.now all c.loop-at.at none lt) in
    absurd (omega (arith, le, c.amount.ensures none, c.if-amount-gt-MAX_AMOUNT.true))))

use Rattle.certificate.specs.Scaled.{is_scaled}
use Rattle.certificate.specs.Packed.{moves_of}
use Rattle.certificate.specs.declared.rows.Offer.{Offer}
use Rattle.std.proofs.Common.{arith, get_or, length, sym, ap, ◌<◌, ◌∙◌, ◌≤◌, ◌≡◌}
use Rattle.std.proofs.lemmas.Bool.{le-leb, leb-true, false_from_ne_true, and_from}
use Rattle.std.proofs.lemmas.List.Folds.{list_all_more}
use Rattle.std.proofs.lemmas.List.Sums.{AllPass-from_list_all}
use Rattle.std.specs.FinSet as set
use Rattle.certificate.proofs.scaled.offers_are_scaled.Goals as goal

none : Offer
none = record { weight = 0; cpus = set.empty }

pub loop-at-preserved : goal.loop-at-preserved
loop-at-preserved c =
    let lt : c.loop-at.at < length c.args.offers.now = omega (arith, c.len-at-end.ensures, c.loop-at-test.true) in
    let rest : c.unpack.result.moves ≡ moves_of (get_or c.args.offers.now c.loop-at.at none).weight = c.unpack.ensures.moves ∙ ap moves_of (c.from.ensures ∙ c.weight.ensures none) in
    list_all_more is_scaled c.args.offers.now c.loop-at.at none lt
    ∙ and_from _ _ c.loop-at.invariant (le-leb _ _ (omega (arith, rest, c.if-unpack-gt1.false)))

pub returns-then-unpack-gt1 : goal.returns-then-unpack-gt1
returns-then-unpack-gt1 c =
    let lt : c.loop-at.at < length c.args.offers.now = omega (arith, c.len-at-end.ensures, c.loop-at-test.true) in
    let rest : c.unpack.result.moves ≡ moves_of (get_or c.args.offers.now c.loop-at.at none).weight = c.unpack.ensures.moves ∙ ap moves_of (c.from.ensures ∙ c.weight.ensures none) in
    sym (false_from_ne_true _ (λ all.
    let le : moves_of (get_or c.args.offers.now c.loop-at.at none).weight ≤ 1 = leb-true _ _ (AllPass-from_list_all is_scaled c.args.offers.now all c.loop-at.at none lt) in
    absurd (omega (arith, le, rest, c.if-unpack-gt1.true))))

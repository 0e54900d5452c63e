use Rattle.certificate.specs.declared.rows.Offer.{Offer}
use Rattle.std.proofs.Common.{List, get_or, subst}
use Rattle.twins.proofs.SameOffers.{offers_fit_at, row_at, is_row, no_row}
use Rattle.twins.proofs.SettledCpus.{settled_alike}
use Rattle.twins.proofs.Splitting.{unsplit}
use Rattle.twins.specs.AreSpans.{AreAlike}
use Rattle.std.specs.FinSet as set
use Rattle.twins.proofs.grouping.split.Goals as goal

pub are_alike-requires-clause-fit : goal.are_alike-requires-clause-fit
are_alike-requires-clause-fit c = offers_fit_at c.args.rows.now c.args.k c.args.offers.now c.requires.fit c.requires.there c.requires.offers

pub returns-then-has-clause-split : goal.returns-then-has-clause-split
returns-then-has-clause-split c =
    unsplit c.args.rows.now c.args.k (row_at c.args.rows.now c.args.k) (get_or c.args.parts.now.waiting c.args.at set.empty) _ _ _ c.requires.there (is_row c.args.rows.now c.args.k c.requires.there) c.requires.part c.requires.parts c.requires.alone
    (settled_alike _ _ _ _ _ _ c.requires.there (is_row c.args.rows.now c.args.k c.requires.there) c.requires.part c.requires.settling (c.has.ensures.settled c.if-has.true)
    (rw (← c.cpus.ensures set.empty) (c.has.ensures.member c.if-has.true)))
    (c.in_ok-keep.ensures set.empty).done

pub returns-then-whole-clause-split : goal.returns-then-whole-clause-split
returns-then-whole-clause-split c =
    unsplit c.args.rows.now c.args.k (row_at c.args.rows.now c.args.k) (get_or c.args.parts.now.waiting c.args.at set.empty) _ _ _ c.requires.there (is_row c.args.rows.now c.args.k c.requires.there) c.requires.part c.requires.parts c.requires.alone
    (subst (λ (o : List Offer). AreAlike o (get_or c.args.parts.now.waiting c.args.at set.empty)) (c.requires.offers no_row)
    (subst (AreAlike c.args.offers.now) (c.cpus-2.ensures set.empty) (c.in_ok-whole.ensures.alike c.if-whole.true)))
    (c.in_ok-keep-2.ensures set.empty).done

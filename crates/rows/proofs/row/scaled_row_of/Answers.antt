use Rattle.std.proofs.Common.{◌/◌, refl, ap}
use Rattle.machine.specs.Cores.{cores_in}
use Rattle.rows.specs.LimitLemmas.{allowed_part, pinned_row_fits, offers_of_distances}
use Rattle.rows.specs.PartLimitLemmas.{scaled_row_fits}
use Rattle.rows.proofs.row.scaled_row_of.Goals as goal

pub parts_among-requires-clause-reach : goal.parts_among-requires-clause-reach
parts_among-requires-clause-reach c = λ cpu has.
    let allowed = allowed_part _ _ _ cpu c.available-cpus.ensures has in (c.requires.fits.present cpu allowed, c.requires.fits.in_reach cpu allowed)

pub returns-clause-fits : goal.returns-clause-fits
returns-clause-fits c =
    scaled_row_fits (cores_in c.args.machine.now c.args.held.now) _ _ _ _ _ refl
    (pinned_row_fits c.args.machine.now _ c.args.demand.now c.in-Pinned.count _ _ _ c.requires.fits c.in-Pinned.is (ap (λ t. c.in-Pinned.count / t) c.threads.ensures.is) refl)
    (offers_of_distances _ _ _) c.in_ok-parts_among.ensures.parts

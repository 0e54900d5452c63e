use Rattle.std.proofs.Common.{◌≡◌, IfOk, sym, subst, ap, ◌∙◌}
use Rattle.std.proofs.lemmas.Bool.{eqb-true}
use Rattle.std.specs.FinSet as set
use Rattle.cpu_set.specs.PointwiseLaws.{is_subset-contains}
use Rattle.machine.specs.CoreCountLaws.{single_cores_in}
use Rattle.machine.specs.Cores.{cores_in}
use Rattle.machine.specs.WholeLaws.{cores_in-within}
use Rattle.rows.specs.Offers.{offers_by_distance}
use Rattle.rows.proofs.cache.core_offers.Goals as goal

pub returns-then-is_single : goal.returns-then-is_single
returns-then-is_single c =
    subst (λ s. IfOk c.offers_by_distance.result (λ offers. offers ≡ offers_by_distance c.args.machine.now c.args.homes.now s))
    (sym (single_cores_in c.args.machine.now c.args.cpus.now c.is_single.ensures.sound.cores (eqb-true _ _ (sym c.is_single.ensures.is ∙ c.if-is_single.true))))
    c.offers_by_distance.ensures

pub offers_by_distance-requires-2-clause-reach : goal.offers_by_distance-requires-2-clause-reach
offers_by_distance-requires-2-clause-reach c = λ q has.
    c.requires.reach q
    (is_subset-contains (cores_in c.args.machine.now c.args.cpus.now) c.args.cpus.now (cores_in-within c.args.machine.now c.args.cpus.now) q
    (ap (λ s. set.contains s q) (sym c.cores_in.ensures.is) ∙ has))

use Rattle.std.proofs.Common.{◌≡◌, ◌∙◌, IfOk, subst}
use Rattle.std.specs.List.{flat_map}
use Rattle.std.proofs.lemmas.List.Elements.{All-push}
use Rattle.machine.specs.Cores.{cores_in}
use Rattle.rows.specs.CachedOffers.{IsCached}
use Rattle.rows.specs.Scaled.{parted}
use Rattle.rows.proofs.CacheLemmas.{offers_are}
use Rattle.rows.proofs.HeldLemmas.{offers_of_some}
use Rattle.rows.specs.LimitLemmas.{offers_of_distances}
use Rattle.rows.proofs.cache.parts_among.Goals as goal

pub parts_for-requires : goal.parts_for-requires
parts_for-requires c = (c.in-Some.ensures c.args.machine.now (rw c.as_slice.ensures.value c.requires.cache)).entry

pub returns-in-Some-clause-parts : goal.returns-in-Some-clause-parts
returns-in-Some-clause-parts c =
    subst (λ offers. IfOk c.parts_for.result (λ parts. parts ≡ flat_map (parted (cores_in c.args.machine.now c.args.held.now)) offers))
    (offers_are _ _ _ _ (c.in-Some.ensures c.args.machine.now (rw c.as_slice.ensures.value c.requires.cache)))
    c.parts_for.ensures

pub core_parts-requires : goal.core_parts-requires
core_parts-requires c = record { distances = rw c.in_ok-offers.ensures (offers_of_distances _ _ _); some = rw c.in_ok-offers.ensures (offers_of_some _ _ _) }

pub returns-clause-cache : goal.returns-clause-cache
returns-clause-cache c =
    rw c.in_ok-push.ensures.items
    (All-push (IsCached c.args.machine.now) _ _ c.requires.cache (record { offers = c.in_ok-offers.ensures; parts = c.in_ok-copy.ensures ∙ c.in_ok-parts.ensures }))

-- Offers that were worked out.
use Rattle.std.specs.Prelude.{◌≡◌, IfSome}
use Rattle.std.specs.List.{flat_map}
use Rattle.cpu_set.specs.Ids.{Ids}
use Rattle.machine.specs.Cores.{cores_in}
use Rattle.machine.specs.Layout.{Layout}
use Rattle.rows.specs.declared.cache.CachedOffers.{CachedOffers}
use Rattle.rows.specs.Offers.{offers_by_distance}
use Rattle.rows.specs.Scaled.{parted}

-- offers that were kept are those of the cores in their CPUs for their homes; parts that were kept are those for the cores in
-- what is held
pub record IsCached (m : Layout) (w : CachedOffers) : Type 0 where
  pub offers : w.offers ≡ offers_by_distance m w.homes (cores_in m w.cpus)
  pub parts : IfSome w.parts (λ p. p.offers ≡ flat_map (parted (cores_in m p.held)) w.offers)

-- they are those of these CPUs for these homes
pub record IsCachedFor (m : Layout) (homes cpus : Ids) (w : CachedOffers) : Type 0 where
  pub entry : IsCached m w
  pub same_homes : w.homes ≡ homes
  pub same_cpus : w.cpus ≡ cpus

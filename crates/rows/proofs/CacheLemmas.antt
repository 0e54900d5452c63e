-- Offers that are cached.
use Rattle.std.proofs.Common.{◌≡◌, ℕ, ◌<◌, true, Some, IfSome, List, All, length, get_or, sym, ap, ◌∙◌, subst}
use Rattle.std.specs.List.{flat_map}
use Rattle.std.proofs.lemmas.List.Elements.{All-get_or}
use Rattle.cpu_set.specs.Ids.{Ids, is_same}
use Rattle.cpu_set.specs.PointwiseLaws.{same_subsets}
use Rattle.machine.specs.Cores.{cores_in}
use Rattle.machine.specs.Layout.{Layout}
use Rattle.rows.specs.declared.cache.CachedOffers.{CachedOffers}
use Rattle.rows.specs.declared.cache.CachedParts.{CachedParts}
use Rattle.rows.specs.CachedOffers.{IsCached, IsCachedFor}
use Rattle.rows.specs.Offers.{offers_by_distance}
use Rattle.rows.specs.Scaled.{parted}

-- an entry with the same homes and CPUs
pub found : (m : Layout) (cache : List CachedOffers) (i : ℕ) (w : CachedOffers) (homes cpus : Ids) → i < length cache → w ≡ get_or cache i w
    → is_same w.homes homes ≡ true → is_same w.cpus cpus ≡ true → All (IsCached m) cache → IsCachedFor m homes cpus w
found m cache i w homes cpus within at same_homes same_cpus all = record {
  entry = subst (IsCached m) (sym at) (All-get_or (IsCached m) cache i w within all);
  same_homes = same_subsets w.homes homes same_homes;
  same_cpus = same_subsets w.cpus cpus same_cpus;
}

pub offers_are : (m : Layout) (homes cpus : Ids) (w : CachedOffers) → IsCachedFor m homes cpus w → w.offers ≡ offers_by_distance m homes (cores_in m cpus)
offers_are m homes cpus w h = h.entry.offers ∙ ap (λ s. offers_by_distance m s (cores_in m w.cpus)) h.same_homes ∙ ap (λ s. offers_by_distance m homes (cores_in m s)) h.same_cpus

-- parts that are kept are those of whoever holds the same
pub kept_parts : (m : Layout) (w : CachedOffers) (kept : CachedParts) (held : Ids) → IsCached m w → w.parts ≡ Some kept → is_same kept.held held ≡ true
    → kept.offers ≡ flat_map (parted (cores_in m held)) w.offers
kept_parts m w kept held h is same =
    subst (λ p. IfSome p (λ (q : CachedParts). q.offers ≡ flat_map (parted (cores_in m q.held)) w.offers)) is h.parts
    ∙ ap (λ s. flat_map (parted (cores_in m s)) w.offers) (same_subsets kept.held held same)

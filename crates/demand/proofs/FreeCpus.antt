-- The free CPUs and the allowed ones, number by number.
use Rattle.std.proofs.Common.{◌≡◌, ℕ, ◌*◌, ◌<◌, Bool, true, false, not, ◌&&◌, ◌||◌, nat_lt, refl, sym, ap, ◌∙◌}
use Rattle.std.proofs.lemmas.Bool.{false≢true, and_parts, not-true, ltb-true, lt-ltb}
use Rattle.std.specs.FinSet as set
use Rattle.cpu_set.specs.Ids.{Ids, is_empty}
use Rattle.cpu_set.specs.Members.{InRange}
use Rattle.cpu_set.specs.PointwiseLaws.{same_members, contains-intersection, contains-difference, is_subset-contains, contains-is_subset}
use Rattle.machine.specs.Layout.{Layout}
use Rattle.machine.specs.Present.{present, IsPresent}
use Rattle.cpu_set.specs.declared.TheConstants.{CPU_LIMIT}
use Rattle.machine.specs.Weight.{weight}
use Rattle.cpu_set.specs.Those.{those}
use Rattle.cpu_set.specs.ThoseLemmas.{contains-those}
use Rattle.machine.specs.CoreCountLaws.{len-whole_in}
use Rattle.machine.specs.Cores.{cores_in, whole_in, IsWhole, AreCores}
use Rattle.machine.specs.WholeLaws.{whole_in-within, whole_in-IsWhole}
use Rattle.demand.specs.Allowed.{is_free, is_allowed, allowed_by}
use Rattle.cpu_set.specs.SetLaws.{is_empty-empty, is_empty-some}

among_all : (p r h n : Bool) → h ≡ true → (p && not r) ≡ (p && (h || n) && not r)
among_all true r true n is = refl
among_all false r true n is = refl
among_all p r false n is = absurd (false≢true is)

among_named : (p r h n : Bool) → h ≡ false → ((p && not r) && n) ≡ (p && (h || n) && not r)
among_named true true false true is = refl
among_named true true false false is = refl
among_named true false false true is = refl
among_named true false false false is = refl
among_named false r false n is = refl
among_named p r true n is = absurd (false≢true (sym is))

-- where no CPU is named
pub free_of_all :
    (m : Layout) (cpus : Ids) → cpus ≡ set.empty → (c : ℕ) → set.contains (set.difference (present m) m.reserved) c ≡ is_free m cpus c
free_of_all m cpus none c =
    contains-difference (present m) m.reserved c
    ∙ among_all (set.contains (present m) c) (set.contains m.reserved c) (is_empty cpus) (set.contains cpus c) (is_empty-empty cpus none)

-- where one is
pub free_of_named :
    (m : Layout) (cpus : Ids) → (cpus ≡ set.empty → ⊥)
    → (c : ℕ) → set.contains (set.intersection (set.difference (present m) m.reserved) cpus) c ≡ is_free m cpus c
free_of_named m cpus some c =
    contains-intersection (set.difference (present m) m.reserved) cpus c
    ∙ ap (λ b. b && set.contains cpus c) (contains-difference (present m) m.reserved c)
    ∙ among_named (set.contains (present m) c) (set.contains m.reserved c) (is_empty cpus) (set.contains cpus c) (is_empty-some cpus some)

pub ruleset free_cpus = (free_of_all, free_of_named)

-- a free CPU is present
pub free_is_present : (m : Layout) (cpus : Ids) (c : ℕ) → is_free m cpus c ≡ true → IsPresent m c
free_is_present m cpus c free = (and_parts _ _ (and_parts _ _ free).0).0

-- and not reserved
pub free_is_unreserved : (m : Layout) (cpus : Ids) (c : ℕ) → is_free m cpus c ≡ true → set.contains m.reserved c ≡ false
free_is_unreserved m cpus c free = not-true _ (and_parts _ _ free).1

free_in_reach : (free known near below : Bool) → (free ≡ true → known ≡ true) → (free ≡ true → below ≡ true) → (free && (known && near)) ≡ (below && (free && near))
free_in_reach true true near true present in_range = refl
free_in_reach true true near false present in_range = absurd (false≢true (in_range refl))
free_in_reach true false near below present in_range = absurd (false≢true (present refl))
free_in_reach false known near true present in_range = refl
free_in_reach false known near false present in_range = refl

-- the free CPUs that are in reach, and whole cores of them, are the allowed ones
pub allowed_meet :
    (m : Layout) (cpus homes free reach : Ids) → ((c : ℕ) → set.contains free c ≡ is_free m cpus c) → InRange free
    → ((c : ℕ) → set.contains reach c ≡ (set.contains (present m) c && nat_lt (weight m homes c) 255))
    → whole_in m (set.intersection free reach) ≡ allowed_by m cpus homes
unfolding allowed_by
allowed_meet m cpus homes free reach are_free in_range are_reached =
    ap (whole_in m) (same_members _ _ (λ c.
    contains-intersection free reach c
    ∙ ap (λ b. b && set.contains reach c) (are_free c)
    ∙ ap (λ b. is_free m cpus c && b) (are_reached c)
    ∙ free_in_reach (is_free m cpus c) (set.contains (present m) c) (nat_lt (weight m homes c) 255) (nat_lt c CPU_LIMIT)
    (free_is_present m cpus c) (λ is. lt-ltb c CPU_LIMIT (in_range c (are_free c ∙ is)))
    ∙ sym (contains-those (is_allowed m cpus homes) CPU_LIMIT c)))

-- what holds of an allowed CPU
pub record IsGiven (m : Layout) (homes : Ids) (c : ℕ) : Type 0 where
  pub present : IsPresent m c
  pub unreserved : set.contains m.reserved c ≡ false
  pub in_reach : weight m homes c < 255

given : (m : Layout) (cpus homes : Ids) (c : ℕ) → is_allowed m cpus homes c ≡ true → IsGiven m homes c
given m cpus homes c is =
    let parts : (is_free m cpus c ≡ true) × (nat_lt (weight m homes c) 255 ≡ true) = and_parts _ _ is in
    record {
      present = free_is_present m cpus c parts.0;
      unreserved = free_is_unreserved m cpus c parts.0;
      in_reach = ltb-true _ _ parts.1;
    }

pub allowed_is_given : (m : Layout) (cpus homes : Ids) (c : ℕ) → set.contains (allowed_by m cpus homes) c ≡ true → IsGiven m homes c
unfolding allowed_by
allowed_is_given m cpus homes c has =
    let named_so = those (is_allowed m cpus homes) CPU_LIMIT in
    let within = is_subset-contains (whole_in m named_so) named_so (whole_in-within m named_so) c has in
    given m cpus homes c (and_parts _ _ (sym (contains-those (is_allowed m cpus homes) CPU_LIMIT c) ∙ within)).1

-- of each core all CPUs are allowed, or none
pub allowed_is_whole : (m : Layout) (cpus homes : Ids) → IsWhole m (allowed_by m cpus homes)
unfolding allowed_by
allowed_is_whole m cpus homes = whole_in-IsWhole m (those (is_allowed m cpus homes) CPU_LIMIT)

-- so they are those of so many cores
pub allowed_in_cores : (m : Layout) (cpus homes : Ids) → AreCores m → InRange (present m) → (cores : ℕ) × (set.len (allowed_by m cpus homes) ≡ cores * m.threads)
unfolding allowed_by
allowed_in_cores m cpus homes are in_range =
    let named_so = those (is_allowed m cpus homes) CPU_LIMIT in
    let within : set.is_subset named_so (present m) ≡ true =
    contains-is_subset named_so (present m) (λ c has.
    (given m cpus homes c (and_parts _ _ (sym (contains-those (is_allowed m cpus homes) CPU_LIMIT c) ∙ has)).1).present) in
    (set.len (cores_in m named_so), len-whole_in m named_so are in_range within)

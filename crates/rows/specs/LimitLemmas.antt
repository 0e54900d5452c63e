-- The offers of a row fit the limits, and what a CPU weighs among them.
use Rattle.std.proofs.Common.{◌≡◌, ℕ, zero, suc, ◌+◌, ◌*◌, ◌/◌, ◌<◌, ◌≤◌, Bool, true, false, cond, ◌&&◌, ◌==◌, nat_le, Some, None, List, ◌∷◌, map, filter, refl, sym, ap, ◌∙◌, inl, inr, arith}
use Rattle.std.specs.List.{range_with_len, list_all}
use Rattle.std.proofs.lemmas.Bool.{cases_eq, and_from}
use Rattle.std.proofs.lemmas.Bool.Decides.{nat_tests}
use Rattle.std.proofs.Math.Nat.{mul-div_cancel, suc-mul}
use Rattle.std.specs.FinSet as set
use Rattle.certificate.specs.TestLaws.{true_left}
use Rattle.cpu_set.specs.Ids.{Ids}
use Rattle.cpu_set.specs.PointwiseLaws.{same_members, contains-empty, contains-intersection, is_subset-contains}
use Rattle.machine.specs.Cores.{cores_in}
use Rattle.machine.specs.Layout.{Layout}
use Rattle.machine.specs.Weight.{weight}
use Rattle.machine.specs.WholeLaws.{cores_in-within}
use Rattle.demand.specs.declared.Kind.{Kind}
use Rattle.demand.specs.declared.Kind.TheVariants.{Pinned, Shared}
use Rattle.demand.specs.declared.Demand.{Demand}
use Rattle.demand.specs.FitsMachine.{FitsKind, AsksForCores, FitsMachine}
use Rattle.cpu_set.specs.declared.TheConstants.{CPU_LIMIT}
use Rattle.certificate.specs.declared.Offer.{Offer}
use Rattle.certificate.specs.declared.limits.TheConstants.{MAX_DEMAND, MAX_WEIGHT}
use Rattle.certificate.specs.RowView.{RowView}
use Rattle.certificate.specs.Weight.{weight as weight_in_row, weight_in}
use Rattle.certificate.specs.Limits.{is_disjoint, are_apart, offers_fit, row_fits}
use Rattle.rows.specs.Offers.{of_weight, offer_at, has_some, offers_by_distance}
use Rattle.rows.specs.RowOf.{offered, row_of_kind}
use Rattle.rows.specs.Weighs.{RowsWeigh}
use Rattle.rows.specs.Scaled.{are_distances}
use Rattle.rows.specs.OfferSetLemmas.{contains-of_weight, offers_some}

-- a test that all of a list pass, those among them that pass another pass it too
all_kept : {A : Type 0} (p : A → Bool) (b : Bool) (x : A) (rest : List A) → p x ≡ true → list_all p rest ≡ true → list_all p (cond b (x ∷ rest) rest) ≡ true
all_kept p true x rest one all = rw one all
all_kept p false x rest one all = all

apart_kept : (b : Bool) (x : Offer) (rest : List Offer) → list_all (λ (o : Offer). is_disjoint x.cpus o.cpus) rest ≡ true → are_apart (λ (o : Offer). o.cpus) rest ≡ true
    → are_apart (λ (o : Offer). o.cpus) (cond b (x ∷ rest) rest) ≡ true
apart_kept true x rest one all = rw one all
apart_kept false x rest one all = all

module _ (m : Layout) (homes cpus : Ids) where
  abbrev from : ℕ → ℕ → List Offer
  from a n = filter has_some (map (offer_at m homes cpus) (range_with_len a n))

  light : (most a n : ℕ) → a + n ≤ most + 1 → list_all (λ (o : Offer). nat_le o.weight most) (from a n) ≡ true
  light most a zero fits = refl
  light most a (suc n) fits =
      all_kept (λ (o : Offer). nat_le o.weight most) (has_some (offer_at m homes cpus a)) (offer_at m homes cpus a) (from (a + 1) n)
      (grind (arith, nat_tests)) (light most (a + 1) n (omega arith))

  -- none weighs more than the greatest distance
  pub offers_of_distances : are_distances (offers_by_distance m homes cpus) ≡ true
  unfolding offers_by_distance
  offers_of_distances = light 254 0 255 (omega arith)

  other_weights : (i j : ℕ) → i < j → is_disjoint (of_weight m homes cpus i) (of_weight m homes cpus j) ≡ true
  other_weights i j lt = ap (λ s. set.len s == 0) none ∙ ap (λ n. n == 0) (set.len-empty _)
    where
      never : (b : Bool) (v : ℕ) → ((b && (v == i)) && (b && (v == j))) ≡ false
      never false v = refl
      never true v = grind (arith, nat_tests)

      none : set.intersection (of_weight m homes cpus i) (of_weight m homes cpus j) ≡ set.empty
      none = same_members _ _ (λ c.
          contains-intersection (of_weight m homes cpus i) (of_weight m homes cpus j) c
          ∙ ap (λ b. b && set.contains (of_weight m homes cpus j) c) (contains-of_weight m homes cpus i c)
          ∙ ap (λ b. (set.contains cpus c && (weight m homes c == i)) && b) (contains-of_weight m homes cpus j c)
          ∙ never (set.contains cpus c) (weight m homes c) ∙ sym (contains-empty c))

  apart_from : (i a n : ℕ) → i < a → list_all (λ (o : Offer). is_disjoint (of_weight m homes cpus i) o.cpus) (from a n) ≡ true
  apart_from i a zero lt = refl
  apart_from i a (suc n) lt =
      all_kept (λ (o : Offer). is_disjoint (of_weight m homes cpus i) o.cpus) (has_some (offer_at m homes cpus a)) (offer_at m homes cpus a) (from (a + 1) n)
      (other_weights i a lt) (apart_from i (a + 1) n (omega arith))

  apart : (a n : ℕ) → are_apart (λ (o : Offer). o.cpus) (from a n) ≡ true
  apart a zero = refl
  apart a (suc n) = apart_kept (has_some (offer_at m homes cpus a)) (offer_at m homes cpus a) (from (a + 1) n) (apart_from a (a + 1) n (omega arith)) (apart (a + 1) n)

  fit_at : (n : ℕ) → n ≤ MAX_WEIGHT + 1 → offers_fit (from 0 n) ≡ true
  unfolding offers_fit
  fit_at n few = and_from _ _ (light MAX_WEIGHT 0 n (omega (arith, few))) (apart 0 n)

  pub offers_of_fit : offers_fit (offers_by_distance m homes cpus) ≡ true
  unfolding offers_by_distance
  offers_of_fit = fit_at 255 (omega arith)

  skipped : (c a : ℕ) (b : Bool) (rest : List Offer) → set.contains (of_weight m homes cpus a) c ≡ false → weight_in (cond b (offer_at m homes cpus a ∷ rest) rest) c ≡ weight_in rest c
  skipped c a true rest without = rw without refl
  skipped c a false rest without = refl

  -- a CPU that is not among them has no weight
  no_weight : (c a n : ℕ) → set.contains cpus c ≡ false → weight_in (from a n) c ≡ None
  no_weight c a zero none = refl
  no_weight c a (suc n) none =
      skipped c a (has_some (offer_at m homes cpus a)) (from (a + 1) n) (contains-of_weight m homes cpus a c ∙ rw none refl)
      ∙ no_weight c (a + 1) n none

  -- one that is among them has its own
  own_weight : (c a n : ℕ) → set.contains cpus c ≡ true → a ≤ weight m homes c → weight m homes c < a + n → weight_in (from a n) c ≡ Some (weight m homes c)
  own_weight c a zero has above below = absurd (omega arith)
  own_weight c a (suc n) has above below =
      elim (cases_eq a (weight m homes c)) [
        | inl same ↦
            let there : set.contains (of_weight m homes cpus a) c ≡ true = contains-of_weight m homes cpus a c ∙ rw has (grind (arith, nat_tests)) in
            ap (λ b. weight_in (cond b (offer_at m homes cpus a ∷ from (a + 1) n) (from (a + 1) n)) c) (offers_some m homes cpus a c has (sym same))
            ∙ here there ∙ ap Some same
        | inr other ↦
            skipped c a (has_some (offer_at m homes cpus a)) (from (a + 1) n)
            (contains-of_weight m homes cpus a c ∙ rw has (grind (arith, nat_tests)))
            ∙ own_weight c (a + 1) n has (omega arith) (omega arith)
      ]
    where
      here : set.contains (of_weight m homes cpus a) c ≡ true → weight_in (offer_at m homes cpus a ∷ from (a + 1) n) c ≡ Some a
      here there = rw there refl

  pub weighs : (c : ℕ) (b : Bool) → set.contains cpus c ≡ b → (b ≡ true → weight m homes c < 255) → weight_in (offers_by_distance m homes cpus) c ≡ cond b (Some (weight m homes c)) None
  unfolding offers_by_distance
  weighs c true has near = own_weight c 0 255 has (omega arith) (near refl)
  weighs c false none near = no_weight c 0 255 none

-- what is available is allowed
pub allowed_part : (allowed online cpus : Ids) (c : ℕ) → cpus ≡ set.intersection allowed online → set.contains cpus c ≡ true → set.contains allowed c ≡ true
allowed_part allowed online cpus c is has = true_left _ _ (sym (contains-intersection allowed online c) ∙ ap (λ s. set.contains s c) (sym is) ∙ has)

-- the cores of what is available are CPUs of it
pub offered_part : (m : Layout) (allowed online : Ids) (c : ℕ) → set.contains (cores_in m (set.intersection allowed online)) c ≡ true → set.contains allowed c ≡ true
offered_part m allowed online c has =
    let both = set.intersection allowed online in
    allowed_part allowed online both c refl (is_subset-contains (cores_in m both) both (cores_in-within m both) c has)

by_kind : (m : Layout) (online : Ids) (id : List ℕ) (d : Demand) (kind : Kind) (row : RowView) → FitsMachine m d → row_of_kind m online id d kind ≡ Some row
    → (c : ℕ) → weight_in_row row c ≡ cond (set.contains (offered m online d) c) (Some (weight m d.homes c)) None
by_kind m online id d Shared row fits is c = absurd (cc)
by_kind m online id d (Pinned count) row fits is c =
    let same : record { id = id; demand = count / m.threads; offers = offers_by_distance m d.homes (offered m online d) } ≡ row = cc in
    ap (λ (r : RowView). weight_in_row r c) (sym same)
    ∙ weighs m d.homes (offered m online d) c (set.contains (offered m online d) c) refl
    (λ has. fits.in_reach c (offered_part m d.allowed online c has))

pub rows_weigh : RowsWeigh
rows_weigh m online id d row fits is c = by_kind m online id d d.kind row fits is c

-- a row of offers like these fits the limits
pub row_of_fits : (m : Layout) (homes cpus : Ids) (id : List ℕ) (count : ℕ) → 1 ≤ count → count ≤ CPU_LIMIT
    → row_fits (record { id = id; demand = count; offers = offers_by_distance m homes cpus }) ≡ true
unfolding row_fits
row_of_fits m homes cpus id count some few =
    and_from _ _ (grind (arith, nat_tests)) (and_from _ _ (below MAX_DEMAND refl) (offers_of_fit m homes cpus))
  where
    below : (limit : ℕ) → limit ≡ CPU_LIMIT → nat_le count limit ≡ true
    below limit is = let low : count ≤ limit = omega (arith, few, is) in grind (arith, nat_tests)

asked : (kind : Kind) (allowed : Ids) (count : ℕ) → kind ≡ Pinned count → FitsKind kind allowed → (1 ≤ count) × (count ≤ CPU_LIMIT)
asked (Pinned n) allowed count is fits = let same : n ≡ count = cc in (rw (← same) fits.0, rw (← same) fits.1)
asked Shared allowed count is fits = absurd (cc)

-- a count of CPUs of whole cores is that of so many cores
pub record AreCoresOf (count threads cores : ℕ) : Type 0 where
  pub is : count ≡ cores * threads
  pub some : 1 ≤ cores
  pub few : cores ≤ count
  pub wide : 1 ≤ threads

wide_of : (cores threads : ℕ) → 1 ≤ cores * threads → (1 ≤ cores) × (1 ≤ threads)
wide_of zero threads some = absurd (omega arith)
wide_of (suc cores) zero some = absurd (let none : suc cores * zero ≡ 0 = omega arith in omega (arith, none, some))
wide_of (suc cores) (suc threads) some = (omega arith, omega arith)

at_least : (cores threads : ℕ) → 1 ≤ threads → cores ≤ cores * threads
at_least zero threads wide = omega arith
at_least (suc cores) threads wide = omega (arith, suc-mul cores threads, at_least cores threads wide)

in_cores : (count threads cores : ℕ) → 1 ≤ count → count ≡ cores * threads → AreCoresOf count threads (count / threads)
in_cores count threads cores some is =
    let both = wide_of cores threads (omega (arith, some, is)) in
    let quotient : count / threads ≡ cores = ap (λ n. n / threads) is ∙ mul-div_cancel cores (omega (arith, both.1)) in
    rw quotient (record { is = is; some = both.0; few = omega (arith, is, at_least cores threads both.1); wide = both.1 })

by_cores : (threads : ℕ) (kind : Kind) (allowed : Ids) (count : ℕ) → kind ≡ Pinned count → FitsKind kind allowed → AsksForCores threads kind → AreCoresOf count threads (count / threads)
by_cores threads (Pinned n) allowed count is fits whole =
    let same : n ≡ count = cc in
    in_cores count threads whole.0 (rw (← same) fits.0) (sym same ∙ whole.1)
by_cores threads Shared allowed count is fits whole = absurd (cc)

-- so a demand is one of so many cores
pub asked_cores : (m : Layout) (d : Demand) (count : ℕ) → FitsMachine m d → d.kind ≡ Pinned count → AreCoresOf count m.threads (count / m.threads)
asked_cores m d count fits is = by_cores m.threads d.kind d.allowed count is fits.kind fits.cores

pub pinned_row_fits : (m : Layout) (id : List ℕ) (d : Demand) (count asks : ℕ) (cpus : Ids) (offers : List Offer) → FitsMachine m d → d.kind ≡ Pinned count
    → asks ≡ count / m.threads → offers ≡ offers_by_distance m d.homes cpus → row_fits (record { id = id; demand = asks; offers = offers }) ≡ true
pinned_row_fits m id d count asks cpus offers fits is asks_for are =
    let few = asked d.kind d.allowed count is fits.kind in
    let cores = asked_cores m d count fits is in
    let most : count ≤ CPU_LIMIT = few.1 in
    rw (are, asks_for) (row_of_fits m d.homes cpus id (count / m.threads) cores.some (omega (arith, cores.few, most)))

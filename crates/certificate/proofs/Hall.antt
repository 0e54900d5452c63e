-- Where rows are short of CPUs there is no plan.
use Rattle.std.proofs.Common.{◌≡◌, ℕ, zero, suc, ◌<◌, ◌≤◌, Bool, true, false, cond, ◌||◌, Some, is_some, List, [], ◌∷◌, filter_map, length, get_or, slice_get, refl, sum_by, arith, All}
use Rattle.std.proofs.lemmas.Slice.Zip.{AllZip-long}
use Rattle.std.specs.List.{AllZip, AllPairs}
use Rattle.std.specs.List.Sorted.{IsStrictlyIncreasing}
use Rattle.std.specs.FinSet as set
use Rattle.std.proofs.lemmas.Bool.{false≢true}
use Rattle.std.proofs.lemmas.Option.{slice_get-get_or}
use Rattle.std.proofs.lemmas.List.Kept.{AllPairs-from_increasing}
use Rattle.std.proofs.lemmas.List.Sums.{sum_by-cons, length-filter}
use Rattle.cpu_set.specs.Ids.{Ids, IsDisjoint}
use Rattle.cpu_set.specs.Members.{cpus, members}
use Rattle.cpu_set.specs.SetLaws.{length-members}
use Rattle.certificate.specs.RowView.{RowView}
use Rattle.certificate.specs.Weight.{weight}
use Rattle.certificate.specs.IsPlan.{Meets, IsPlan}
use Rattle.certificate.specs.IsShortage.{chosen, asked, is_offered, offered}
use Rattle.certificate.specs.PlanFault.{is_held}
use Rattle.certificate.specs.Laws.{ShortageLeavesNoPlan}
use Rattle.certificate.specs.SumLaws.{sum_by-constant}
use Rattle.certificate.specs.CpuLaws.{sum_by-cpus-le}
use Rattle.certificate.specs.ApartLemmas.{sums_of_sets}

-- ---- the elements of some places

All-tail : (P : ℕ → Type 0) (k : ℕ) (ks : List ℕ) → All P (k ∷ ks) → All P ks
All-tail P k ks all = λ i d lt. all (suc i) d (omega arith)

All-head : (P : ℕ → Type 0) (k : ℕ) (ks : List ℕ) → All P (k ∷ ks) → P k
All-head P k ks all = all 0 k (omega arith)

module _ {A : Type 0} where
  -- the elements at these places
  abbrev pub at_places : List A → List ℕ → List A
  at_places xs ks = filter_map (slice_get xs) ks

  pub length-at_places : (xs : List A) (ks : List ℕ) → All (λ k. k < length xs) ks → length (at_places xs ks) ≡ length ks
  length-at_places xs [] there = refl
  length-at_places [] (k ∷ ks) there = absurd (omega (arith, All-head (λ j. j < 0) k ks there))
  length-at_places (x ∷ xs) (k ∷ ks) there =
      rw (slice_get-get_or (x ∷ xs) k x (All-head (λ j. j < length (x ∷ xs)) k ks there))
      (omega (arith, length-at_places (x ∷ xs) ks (All-tail (λ j. j < length (x ∷ xs)) k ks there)))

  pub get_or-at_places :
      (xs : List A) (ks : List ℕ) (i : ℕ) (d : A) → All (λ k. k < length xs) ks → i < length ks
      → get_or (at_places xs ks) i d ≡ get_or xs (get_or ks i 0) d
  get_or-at_places xs [] i d there lt = absurd (omega arith)
  get_or-at_places xs (k ∷ ks) zero d there lt =
      rw (slice_get-get_or xs k d (All-head (λ j. j < length xs) k ks there)) refl
  get_or-at_places xs (k ∷ ks) (suc i) d there lt =
      rw (slice_get-get_or xs k d (All-head (λ j. j < length xs) k ks there))
      (get_or-at_places xs ks i d (All-tail (λ j. j < length xs) k ks there) (omega arith))

-- what stands beside an element
beside : {A B : Type 0} (R : A → B → Type 0) (xs : List A) (ys : List B) (k : ℕ) → AllZip R xs ys → k < length xs
    → (x : A) × (y : B) × (slice_get xs k ≡ Some x) × (slice_get ys k ≡ Some y) × R x y
beside R [] [] k all lt = absurd (omega arith)
beside R [] (y ∷ ys) k all lt = absurd all
beside R (x ∷ xs) [] k all lt = absurd all
beside R (x ∷ xs) (y ∷ ys) zero all lt = (x, y, refl, refl, all.0)
beside R (x ∷ xs) (y ∷ ys) (suc k) all lt = beside R xs ys k all.1 (omega arith)

places_zip : {A B : Type 0} (R : A → B → Type 0) (xs : List A) (ys : List B) (ks : List ℕ) → AllZip R xs ys → All (λ k. k < length xs) ks
    → AllZip R (at_places xs ks) (at_places ys ks)
places_zip R xs ys [] all there = tt
places_zip R xs ys (k ∷ ks) all there =
    let at = beside R xs ys k all (there 0 k (omega arith)) in
    rw (at.2, at.3) (at.4, places_zip R xs ys ks all (λ i d lt. there (suc i) d (omega arith)))

places_apart : (sets : List Ids) (ks : List ℕ) → AllPairs IsDisjoint sets → All (λ k. k < length sets) ks → IsStrictlyIncreasing ks
    → AllPairs IsDisjoint (at_places sets ks)
places_apart sets ks apart there rising = λ i j d lt below.
    let in_ks : j < length ks = omega (arith, length-at_places sets ks there) in
    rw (get_or-at_places sets ks i d there (omega arith), get_or-at_places sets ks j d there in_ks)
    (apart (get_or ks i 0) (get_or ks j 0) d (AllPairs-from_increasing ks rising i j 0 lt in_ks) (there j 0 in_ks))

-- the rows of these numbers have a plan where all rows have one
plan_of_chosen : (rows : List RowView) (ks : List ℕ) (sets : List Ids) → IsPlan rows sets → All (λ k. k < length rows) ks → IsStrictlyIncreasing ks
    → IsPlan (chosen rows ks) (at_places sets ks)
plan_of_chosen rows ks sets plan there rising = record {
  met = places_zip Meets rows sets ks plan.met there;
  apart = places_apart sets ks plan.apart (λ i d lt. rw (AllZip-long Meets rows sets plan.met) (there i d lt)) rising;
}

-- ---- what a plan holds

asks_what_it_holds : (rows : List RowView) (sets : List Ids) → AllZip Meets rows sets → asked rows ≡ sum_by (λ s. sum_by (λ _. 1) (members s)) sets
asks_what_it_holds [] [] met = refl
asks_what_it_holds [] (s ∷ sets) met = absurd met
asks_what_it_holds (row ∷ rows) [] met = absurd met
asks_what_it_holds (row ∷ rows) (s ∷ sets) met =
    let m : Meets row s = met.0 in
    omega (
      arith,
      sum_by-cons (λ (r : RowView). r.demand) row rows,
      sum_by-cons (λ (t : Ids). sum_by (λ _. 1) (members t)) s sets,
      sum_by-constant {X = ℕ} 1 (members s),
      length-members s m.in_range,
      m.size,
      asks_what_it_holds rows sets met.1,
    )

held_is_offered : (rows : List RowView) (sets : List Ids) → AllZip Meets rows sets → (c : ℕ) → is_held sets c ≡ true → is_offered rows c ≡ true
held_is_offered [] [] met c held = absurd (false≢true held)
held_is_offered [] (s ∷ sets) met c held = absurd met
held_is_offered (row ∷ rows) [] met c held = absurd met
held_is_offered (row ∷ rows) (s ∷ sets) met c held =
    let m : Meets row s = met.0 in
    by_cases (set.contains s c) (is_some (weight row c)) (m.allowed c) held (held_is_offered rows sets met.1 c)
  where
    by_cases : (a b : Bool) → (a ≡ true → b ≡ true) → (a || is_held sets c) ≡ true → (is_held sets c ≡ true → is_offered rows c ≡ true) → (b || is_offered rows c) ≡ true
    by_cases true b f e rest = rw (f refl) refl
    by_cases false true f e rest = refl
    by_cases false false f e rest = rest e

one_at_most : (a b : Bool) → (a ≡ true → b ≡ true) → cond a 1 0 ≤ cond {A = ℕ} b 1 0
one_at_most true b f = rw (f refl) (omega arith)
one_at_most false b f = omega arith

-- rows that have a plan ask for no more CPUs than the union of their offers has
plan_is_offered : (rows : List RowView) (sets : List Ids) → IsPlan rows sets → asked rows ≤ length (offered rows)
plan_is_offered rows sets plan =
    rw (asks_what_it_holds rows sets plan.met, sums_of_sets (λ _. 1) sets plan.apart, length-filter (is_offered rows) cpus)
    (sum_by-cpus-le _ _ (λ c is_cpu. one_at_most (is_held sets c) (is_offered rows c) (held_is_offered rows sets plan.met c)))

pub shortage_leaves_no_plan : ShortageLeavesNoPlan
shortage_leaves_no_plan rows members shortage sets plan =
    omega (arith, shortage.short, plan_is_offered (chosen rows members) (at_places sets members) (plan_of_chosen rows members sets plan shortage.there shortage.rising))

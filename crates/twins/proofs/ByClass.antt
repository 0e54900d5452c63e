-- Sums over CPUs, by the sets that have them.
use Rattle.std.proofs.Common.{◌≡◌, ℕ, suc, ◌+◌, ◌<◌, ◌≤◌, Bool, true, false, cond, ◌&&◌, ◌||◌, List, [], ◌∷◌, length, get_or, sum_by, refl, sym, ap, ◌∙◌, arith}
use Rattle.std.specs.Prelude.{AllPairs}
use Rattle.std.specs.FinSet as set
use Rattle.std.proofs.lemmas.List.Sums.{sum_by-cons}
use Rattle.cpu_set.specs.Ids.{Ids, IsDisjoint}
use Rattle.cpu_set.specs.Members.{InRange, cpus}
use Rattle.cpu_set.specs.PointwiseLaws.{contains-intersection}
use Rattle.certificate.specs.PlanFault.{is_held}
use Rattle.certificate.specs.SumLaws.{sum_by_none, sum_by_same, sum_by_plus}
use Rattle.certificate.specs.CpuLaws.{sum_by-cpus-le}
use Rattle.certificate.specs.ApartLemmas.{AllPairs-tail, AllPairs-head, not_held}
use Rattle.certificate.specs.TestLaws.{true_left}
use Rattle.twins.specs.IsPart.{times_in}
use Rattle.twins.proofs.Sets.{len_sum}

-- the same terms, summed in either order
pub sum_by_swap : {X Y : Type 0} (f : X → Y → ℕ) (xs : List X) (ys : List Y) → sum_by (λ x. sum_by (f x) ys) xs ≡ sum_by (λ y. sum_by (λ x. f x y) xs) ys
sum_by_swap f [] ys = sym (sum_by_none _ ys (λ y. refl))
sum_by_swap {X} {Y} f (x ∷ xs) ys =
    sum_by-cons (λ (z : X). sum_by (f z) ys) x xs
    ∙ ap (λ n. sum_by (f x) ys + n) (sum_by_swap f xs ys)
    ∙ sym (sum_by_plus (f x) (λ (y : Y). sum_by (λ (z : X). f z y) xs) ys)
    ∙ sum_by_same _ _ ys (λ y. sym (sum_by-cons (λ (z : X). f z y) x xs))

-- the same terms at each place of two lists
pub sum_by_places :
    {X Y : Type 0} (f : X → ℕ) (h : Y → ℕ) (xs : List X) (ys : List Y) → length xs ≡ length ys
    → ((k : ℕ) (d : X) (e : Y) → k < length xs → f (get_or xs k d) ≡ h (get_or ys k e)) → sum_by f xs ≡ sum_by h ys
sum_by_places f h [] [] same each = refl
sum_by_places f h [] (y ∷ ys) same each = absurd (omega arith)
sum_by_places f h (x ∷ xs) [] same each = absurd (omega arith)
sum_by_places f h (x ∷ xs) (y ∷ ys) same each =
    omega (
      arith,
      sum_by-cons f x xs,
      sum_by-cons h y ys,
      each 0 x y (omega arith),
      sum_by_places f h xs ys (omega arith) (λ k d e lt. each (suc k) d e (omega arith)),
    )

-- sets that are apart have a CPU once, or not at all
pub times_of_apart : (sets : List Ids) (c : ℕ) → AllPairs IsDisjoint sets → times_in sets c ≡ cond (is_held sets c) 1 0
times_of_apart [] c apart = refl
times_of_apart (s ∷ sets) c apart =
    sum_by-cons (λ (t : Ids). cond {A = ℕ} (set.contains t c) 1 0) s sets
    ∙ by_cases (set.contains s c) (is_held sets c) (times_of_apart sets c (AllPairs-tail s sets apart)) (not_held s sets (AllPairs-head s sets apart) c)
  where
    by_cases : (here more : Bool) → times_in sets c ≡ cond more 1 0 → (here ≡ true → more ≡ false) → cond {A = ℕ} here 1 0 + times_in sets c ≡ cond (here || more) 1 0
    by_cases true more e once = omega (arith, e, ap (λ b. cond {A = ℕ} b 1 0) (once refl))
    by_cases false more e once = omega (arith, e)

in_both : (a b : Bool) → cond {A = ℕ} (a && b) 1 0 ≡ cond {A = ℕ} a (cond {A = ℕ} b 1 0) 0
in_both true b = refl
in_both false b = refl

sum_if : (b : Bool) (sets : List Ids) (c : ℕ) → sum_by (λ t. cond {A = ℕ} b (cond {A = ℕ} (set.contains t c) 1 0) 0) sets ≡ cond {A = ℕ} b (times_in sets c) 0
sum_if true sets c = refl
sum_if false sets c = sum_by_none _ sets (λ t. refl)

-- the members of a set that other sets have, counted set by set
pub len_by : (s : Ids) (sets : List Ids) → InRange s → sum_by (λ t. set.len (set.intersection s t)) sets ≡ sum_by (λ c. cond {A = ℕ} (set.contains s c) (times_in sets c) 0) cpus
len_by s sets in_range =
    sum_by_same _ _ sets (λ t.
    len_sum (set.intersection s t) (λ n here. in_range n (true_left _ _ (sym (contains-intersection s t n) ∙ here)))
    ∙ sum_by_same _ _ cpus (λ c. ap (λ b. cond {A = ℕ} b 1 0) (contains-intersection s t c) ∙ in_both (set.contains s c) (set.contains t c)))
    ∙ sum_by_swap (λ (t : Ids) (c : ℕ). cond {A = ℕ} (set.contains s c) (cond {A = ℕ} (set.contains t c) 1 0) 0) sets cpus
    ∙ sum_by_same _ _ cpus (λ c. sum_if (set.contains s c) sets c)

-- all of them, where the sets are apart and have all members
pub len_of_parts : (s : Ids) (sets : List Ids) → InRange s → AllPairs IsDisjoint sets → ((c : ℕ) → set.contains s c ≡ true → is_held sets c ≡ true)
    → sum_by (λ t. set.len (set.intersection s t)) sets ≡ set.len s
len_of_parts s sets in_range apart all =
    len_by s sets in_range
    ∙ sum_by_same _ _ cpus (λ c. one c (set.contains s c) refl)
    ∙ sym (len_sum s in_range)
  where
    one : (c : ℕ) (b : Bool) → set.contains s c ≡ b → cond {A = ℕ} b (times_in sets c) 0 ≡ cond {A = ℕ} b 1 0
    one c true here = times_of_apart sets c apart ∙ ap (λ b. cond {A = ℕ} b 1 0) (all c here)
    one c false gone = refl

-- and no more than there are, where the sets are apart
pub len_of_parts_le : (s : Ids) (sets : List Ids) → InRange s → AllPairs IsDisjoint sets → sum_by (λ t. set.len (set.intersection s t)) sets ≤ set.len s
len_of_parts_le s sets in_range apart =
    rw (len_by s sets in_range, len_sum s in_range)
    (sum_by-cpus-le _ _ (λ c is_cpu. one c (set.contains s c)))
  where
    at_most : (b : Bool) → cond {A = ℕ} b 1 0 ≤ 1
    at_most true = omega arith
    at_most false = omega arith

    one : (c : ℕ) (b : Bool) → cond {A = ℕ} b (times_in sets c) 0 ≤ cond {A = ℕ} b 1 0
    one c true = omega (arith, times_of_apart sets c apart, at_most (is_held sets c))
    one c false = omega arith

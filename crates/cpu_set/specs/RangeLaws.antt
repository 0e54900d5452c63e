-- The longest ranges of rising numbers, met one after another, and those of a set.
use Rattle.std.proofs.Common.{◌≡◌, ℕ, zero, suc, ◌+◌, ◌<◌, ◌≤◌, Bool, true, false, ◌&&◌, ◌||◌, ◌==◌, nat_le, nat_lt, ◌-◌, cond, eqb, List, [], ◌∷◌, filter, refl, sym, ap, subst, ◌∙◌, ⊎_elim, arith}
use Rattle.std.specs.List.{range_with_len}
use Rattle.std.proofs.lemmas.Bool.{cases_Bool, cases_eq, eqb-true, cond-true, cond-false, cond_both, eq-eqb, ne_eqb, eqb-false, and_from, and_left, and_right, or_from, or_left, le-leb, lt-leb}
use Rattle.std.proofs.lemmas.Bool.Decides.{nat_tests}
use Rattle.std.specs.FinSet as set
use Rattle.cpu_set.specs.LeastLaws.{cpus_from}
use Rattle.cpu_set.specs.Ids.{Ids}
use Rattle.cpu_set.specs.Members.{members}
use Rattle.cpu_set.specs.Ranges.{ranges_of, with_number, AreRuns, in_ranges}
use Rattle.cpu_set.specs.RangesFrom.{ranges_from}
use Rattle.cpu_set.specs.declared.TheConstants.{CPU_LIMIT}

-- the ranges of those among `count` numbers from n on that pass
abbrev pub ranges_among : (ℕ → Bool) → ℕ → ℕ → List (ℕ × ℕ)
ranges_among p n count = ranges_of (filter p (range_with_len n count))

step_in : (p : ℕ → Bool) (n count : ℕ) → p n ≡ true → ranges_among p n (suc count) ≡ with_number n (ranges_among p (n + 1) count)
step_in p n count e =
    let rest = filter p (range_with_len (n + 1) count) in
    ap (λ b. ranges_of (cond b (n ∷ rest) rest)) e

step_out : (p : ℕ → Bool) (n count : ℕ) → p n ≡ false → ranges_among p n (suc count) ≡ ranges_among p (n + 1) count
step_out p n count e =
    let rest = filter p (range_with_len (n + 1) count) in
    ap (λ b. ranges_of (cond b (n ∷ rest) rest)) e

pub AreRuns-weaker : (m n : ℕ) (rs : List (ℕ × ℕ)) → m ≤ n → AreRuns n rs → AreRuns m rs
AreRuns-weaker m n [] le h = tt
AreRuns-weaker m n (r ∷ more) le h = (omega arith, h.1, h.2)

-- rising ranges have no number below the first
pub none_below : (from n : ℕ) (rs : List (ℕ × ℕ)) → AreRuns from rs → n < from → in_ranges rs n ≡ false
none_below from n [] runs low = refl
none_below from n (r ∷ more) runs low =
    or_from _ _ (and_left _ _ (lt-leb r.0 n (omega (arith, runs.0)))) (none_below (r.1 + 2) n more runs.2 (omega (arith, runs.0, runs.1)))

pub first_in : (r : ℕ × ℕ) (more : List (ℕ × ℕ)) (n : ℕ) → r.0 ≤ n → n ≤ r.1 → in_ranges (r ∷ more) n ≡ true
first_in r more n low high = or_left _ _ (and_from _ _ (le-leb r.0 n low) (le-leb n r.1 high))

pub above_first : (r : ℕ × ℕ) (more : List (ℕ × ℕ)) (n : ℕ) → r.1 < n → in_ranges (r ∷ more) n ≡ in_ranges more n
above_first r more n high = ap (λ b. b || in_ranges more n) (and_right _ _ (lt-leb n r.1 high))

AreRuns-with_number : (n : ℕ) (rs : List (ℕ × ℕ)) → AreRuns (n + 1) rs → AreRuns n (with_number n rs)
AreRuns-with_number n [] h = (omega arith, omega arith, tt)
AreRuns-with_number n (r ∷ more) h =
    cond_both (eqb r.0 (n + 1)) _ _ (AreRuns n) (λ e. (omega arith, omega arith, h.2))
    (λ e. let apart = eqb-false r.0 (n + 1) e in (omega arith, omega arith, (omega arith, h.1, h.2)))

pub AreRuns-ranges_among : (p : ℕ → Bool) (n count : ℕ) → AreRuns n (ranges_among p n count)
AreRuns-ranges_among p n zero = tt
AreRuns-ranges_among p n (suc count) =
    let rest = AreRuns-ranges_among p (n + 1) count in
    ⊎_elim (λ e. subst (AreRuns n) (sym (step_in p n count e)) (AreRuns-with_number n _ rest))
    (λ e. subst (AreRuns n) (sym (step_out p n count e)) (AreRuns-weaker n (n + 1) _ (omega arith) rest))
    (cases_Bool (p n))

-- the ranges stay apart from a number whose next does not pass
apart_from : (p : ℕ → Bool) (n count : ℕ) → (0 < count → p n ≡ false) → AreRuns (n + 1) (ranges_among p n count)
apart_from p n zero stop = tt
apart_from p n (suc count) stop =
    subst (AreRuns (n + 1)) (sym (step_out p n count (stop (omega arith)))) (AreRuns-ranges_among p (n + 1) count)

with_number-apart : (n : ℕ) (rs : List (ℕ × ℕ)) → AreRuns (n + 2) rs → with_number n rs ≡ (n, n) ∷ rs
with_number-apart n [] h = refl
with_number-apart n (r ∷ more) h = cond-false _ _ _ (ne_eqb r.0 (n + 1) (λ e. omega arith))

-- numbers that do not pass are in no range
pub ranges_skip : (p : ℕ → Bool) (n k total count : ℕ) → total ≡ k + count → ((m : ℕ) → n ≤ m → m < n + k → p m ≡ false) → ranges_among p n total ≡ ranges_among p (n + k) count
ranges_skip p n zero total count e none = ap (ranges_among p n) e' ∙ ap (λ m. ranges_among p m count) at where
  e' : total ≡ count
  e' = omega arith

  at : n ≡ n + 0
  at = omega arith
ranges_skip p n (suc k) zero count e none = absurd (omega arith)
ranges_skip p n (suc k) (suc total) count e none =
    let later = ranges_skip p (n + 1) k total count (omega arith) (λ m low high. none m (omega arith) (omega arith)) in
    let at : n + 1 + k ≡ n + suc k = omega arith in
    step_out p n total (none n (omega arith) (omega arith)) ∙ later ∙ ap (λ m. ranges_among p m count) at

pub ranges_none_among : (p : ℕ → Bool) (n count : ℕ) → ((m : ℕ) → n ≤ m → m < n + count → p m ≡ false) → ranges_among p n count ≡ []
ranges_none_among p n zero none = refl
ranges_none_among p n (suc count) none =
    let later = ranges_none_among p (n + 1) count (λ m low high. none m (omega arith) (omega arith)) in
    step_out p n count (none n (omega arith) (omega arith)) ∙ later

-- a range that can't go on is the first
pub ranges_more : (p : ℕ → Bool) (first last k total count : ℕ) → last ≡ first + k → total ≡ k + 1 + count
    → ((m : ℕ) → first ≤ m → m ≤ last → p m ≡ true) → (0 < count → p (last + 1) ≡ false) → ranges_among p first total ≡ (first, last) ∷ ranges_among p (last + 1) count
ranges_more p first last zero zero count e t whole stop = absurd (omega arith)
ranges_more p first last zero (suc total) count e t whole stop =
    let one : last ≡ first = omega arith in
    let left : total ≡ count = omega arith in
    let rest = apart_from p (last + 1) count stop in
    step_in p first total (whole first (omega arith) (omega arith))
    ∙ ap (λ n. with_number first (ranges_among p (n + 1) total)) (sym one)
    ∙ ap (λ n. with_number first (ranges_among p (last + 1) n)) left
    ∙ with_number-apart first _ (AreRuns-weaker (first + 2) (last + 1 + 1) _ (omega arith) rest)
    ∙ ap (λ n. (first, n) ∷ ranges_among p (last + 1) count) (sym one)
ranges_more p first last (suc k) zero count e t whole stop = absurd (omega arith)
ranges_more p first last (suc k) (suc total) count e t whole stop =
    let later = ranges_more p (first + 1) last k total count (omega arith) (omega arith) (λ m low high. whole m (omega arith) high) stop in
    step_in p first total (whole first (omega arith) (omega arith))
    ∙ ap (with_number first) later ∙ cond-true _ _ _ (eq-eqb (first + 1) (first + 1) refl)

-- the numbers of the ranges
one_number : (n q : ℕ) → ((nat_le n q && nat_le q n) || false) ≡ ((q == n) || false)
one_number n q = grind (arith, nat_tests)

joined : (n last q : ℕ) (more : Bool) → n + 1 ≤ last → ((nat_le n q && nat_le q last) || more) ≡ ((q == n) || ((nat_le (n + 1) q && nat_le q last) || more))
joined n last q more h = let cases = cases_eq q n in grind (arith, nat_tests)

apart : (n q : ℕ) (more : Bool) → ((nat_le n q && nat_le q n) || more) ≡ ((q == n) || more)
apart n q more = grind (arith, nat_tests)

in_ranges-with_number : (n q : ℕ) (rs : List (ℕ × ℕ)) → AreRuns (n + 1) rs → in_ranges (with_number n rs) q ≡ ((q == n) || in_ranges rs q)
in_ranges-with_number n q [] h = one_number n q
in_ranges-with_number n q (r ∷ more) h =
    cond_both (eqb r.0 (n + 1)) _ _ (λ rs. in_ranges rs q ≡ ((q == n) || in_ranges (r ∷ more) q))
    (λ e. let first : r.0 ≡ n + 1 = eqb-true r.0 (n + 1) e in
    joined n r.1 q (in_ranges more q) (omega (arith, h)) ∙ ap (λ m. (q == n) || ((nat_le m q && nat_le q r.1) || in_ranges more q)) (sym first))
    (λ e. apart n q (in_ranges (r ∷ more) q))

none_yet : (n q : ℕ) (v : Bool) → false ≡ ((nat_le n q && nat_lt q (n + 0)) && v)
none_yet n q v = grind (arith, nat_tests)

one_in : (n count q : ℕ) (v : Bool) → (q ≡ n → v ≡ true) → ((q == n) || ((nat_le (n + 1) q && nat_lt q (n + 1 + count)) && v)) ≡ ((nat_le n q && nat_lt q (n + suc count)) && v)
one_in n count q v e = let cases = cases_eq q n in grind (arith, nat_tests)

one_out : (n count q : ℕ) (v : Bool) → (q ≡ n → v ≡ false) → ((nat_le (n + 1) q && nat_lt q (n + 1 + count)) && v) ≡ ((nat_le n q && nat_lt q (n + suc count)) && v)
one_out n count q v e = let cases = cases_eq q n in grind (arith, nat_tests)

pub in_ranges-among : (p : ℕ → Bool) (n count q : ℕ) → in_ranges (ranges_among p n count) q ≡ ((nat_le n q && nat_lt q (n + count)) && p q)
in_ranges-among p n zero q = none_yet n q (p q)
in_ranges-among p n (suc count) q =
    let later = in_ranges-among p (n + 1) count q in
    let runs = AreRuns-ranges_among p (n + 1) count in
    ⊎_elim (λ e.
    ap (λ rs. in_ranges rs q) (step_in p n count e) ∙ in_ranges-with_number n q (ranges_among p (n + 1) count) runs
    ∙ ap (λ b. (q == n) || b) later ∙ one_in n count q (p q) (λ same. ap p same ∙ e))
    (λ e. ap (λ rs. in_ranges rs q) (step_out p n count e) ∙ later ∙ one_out n count q (p q) (λ same. ap p same ∙ e))
    (cases_Bool (p n))

pub ranges_from-is : (s : Ids) (n count : ℕ) → count + n ≡ CPU_LIMIT → ranges_from s n ≡ ranges_among (set.contains s) n count
unfolding ranges_from
ranges_from-is s n count e = let left : CPU_LIMIT - n ≡ count = omega arith in ap (ranges_among (set.contains s) n) left

-- the ranges of a set from a number on
pub members_ranges : (s : Ids) (n : ℕ) → n ≡ CPU_LIMIT → ranges_of (members s) ≡ ranges_from s 0
members_ranges s n e = ap (λ ns. ranges_of (filter (set.contains s) ns)) (cpus_from n e) ∙ sym (ranges_from-is s 0 n (omega arith))

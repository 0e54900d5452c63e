-- The rows that are marked, as members of a shortage.
use Rattle.std.proofs.Common.{◌≡◌, ℕ, zero, suc, ◌+◌, ◌<◌, ◌≤◌, Bool, true, false, cond, Option, Some, None, List, [], ◌∷◌, ◌++◌, length, get_or, slice_get, filter, refl, sym, ap, ◌∙◌, arith}
use Rattle.std.specs.Prelude.{All, Contains, ◌||◌}
use Rattle.std.specs.List.{range_with_len, cons_option, list_any}
use Rattle.std.specs.List.Sorted.{IsStrictlyIncreasing}
use Rattle.std.proofs.lemmas.List.{map-id}
use Rattle.std.proofs.lemmas.List.FromFn.{filter_of_map_range_with_len_more, length-range_with_len, get_or-range_with_len}
use Rattle.std.proofs.lemmas.List.Elements.{All-cons, All-nil, All-contains}
use Rattle.std.proofs.lemmas.List.Kept.{IsStrictlyIncreasing-filter}
use Rattle.std.proofs.lemmas.List.Sums.{sum_by-cons}
use Rattle.std.proofs.lemmas.Option.{slice_get-get_or}
use Rattle.certificate.specs.RowView.{RowView}
use Rattle.certificate.specs.IsShortage.{chosen, asked}
use Rattle.transport.specs.Numbers.{is_marked}
use Rattle.transport.specs.Places.{marked_places}
use Rattle.transport.specs.Totals.{total}
use Rattle.transport.proofs.Sums.{total_same}

-- one place more
pub places_more :
    (test : ℕ → Bool) (n : ℕ) → filter test (range_with_len 0 (n + 1)) ≡ filter test (range_with_len 0 n) ++ cond (test n) (n ∷ []) []
places_more test n =
    ap (filter test) (sym (map-id (range_with_len 0 (n + 1))))
    ∙ filter_of_map_range_with_len_more test (λ k. k) 0 n n (omega arith)
    ∙ ap (λ ks. filter test ks ++ cond (test n) (n ∷ []) []) (map-id (range_with_len 0 n))

pub places_marked : (test : ℕ → Bool) (places : List ℕ) (n : ℕ) → places ≡ filter test (range_with_len 0 n) → test n ≡ true → places ++ n ∷ [] ≡ filter test (range_with_len 0 (n + 1))
places_marked test places n so_far on =
    sym (places_more test n ∙ ap (λ b. filter test (range_with_len 0 n) ++ cond b (n ∷ []) []) on ∙ ap (λ ks. ks ++ n ∷ []) (sym so_far))

nothing : (ks : List ℕ) → ks ++ [] ≡ ks
nothing [] = refl
nothing (k ∷ ks) = ap (λ more. k ∷ more) (nothing ks)

pub places_unmarked : (test : ℕ → Bool) (places : List ℕ) (n : ℕ) → places ≡ filter test (range_with_len 0 n) → test n ≡ false → places ≡ filter test (range_with_len 0 (n + 1))
places_unmarked test places n so_far off =
    so_far ∙ sym (places_more test n ∙ ap (λ b. filter test (range_with_len 0 n) ++ cond b (n ∷ []) []) off ∙ nothing (filter test (range_with_len 0 n)))

-- each place passes, and is one of the range
passing : (test : ℕ → Bool) (a n : ℕ) → All (λ k. (test k ≡ true) × (k < a + n)) (filter test (range_with_len a n))
passing test a zero = All-nil (λ k. (test k ≡ true) × (k < a + zero))
passing test a (suc n) = by_test (test a) refl (wider (passing test (a + 1) n))
  where
    wider :
        All (λ k. (test k ≡ true) × (k < a + 1 + n)) (filter test (range_with_len (a + 1) n))
        → All (λ k. (test k ≡ true) × (k < a + suc n)) (filter test (range_with_len (a + 1) n))
    wider all k d lt =
        let h = all k d lt in
        (h.0, omega (arith, h.1))

    by_test :
        (b : Bool) → test a ≡ b → All (λ k. (test k ≡ true) × (k < a + suc n)) (filter test (range_with_len (a + 1) n))
        → All (λ k. (test k ≡ true) × (k < a + suc n)) (cond b (a ∷ filter test (range_with_len (a + 1) n)) (filter test (range_with_len (a + 1) n)))
    by_test true on more = All-cons (λ k. (test k ≡ true) × (k < a + suc n)) a (filter test (range_with_len (a + 1) n)) (on, omega arith) more
    by_test false off more = more

rising : (a n : ℕ) → IsStrictlyIncreasing (range_with_len a n)
rising a n k lt =
    let long = length-range_with_len a n in
    let here : get_or (range_with_len a n) k 0 ≡ a + k = get_or-range_with_len a n k 0 (omega (arith, long)) in
    let next : get_or (range_with_len a n) (k + 1) 0 ≡ a + (k + 1) = get_or-range_with_len a n (k + 1) 0 (omega (arith, long)) in
    omega (arith, here, next)

pub places_rise : (marks : List Bool) → IsStrictlyIncreasing (marked_places marks)
places_rise marks = IsStrictlyIncreasing-filter (is_marked marks) (range_with_len 0 (length marks)) (rising 0 (length marks))

pub places_below : (marks : List Bool) → All (λ k. k < length marks) (marked_places marks)
places_below marks k d lt =
    let h = passing (is_marked marks) 0 (length marks) k d lt in
    omega (arith, h.1)

pub places_pass : (marks : List Bool) (k : ℕ) → Contains (marked_places marks) k → is_marked marks k ≡ true
places_pass marks k here =
    let h = All-contains (λ (j : ℕ). (is_marked marks j ≡ true) × (j < 0 + length marks)) (marked_places marks) k (passing (is_marked marks) 0 (length marks)) here in
    h.0

pub places_marked_all : (marks : List Bool) → All (λ k. is_marked marks k ≡ true) (marked_places marks)
places_marked_all marks k d lt = (passing (is_marked marks) 0 (length marks) k d lt).0

-- of numbers of which one passes the test, and each is such, one is both
pub any_of_all : (P : ℕ → Type 0) (test : ℕ → Bool) (ks : List ℕ) → All P ks → list_any test ks ≡ true → (k : ℕ) × P k × (test k ≡ true)
any_of_all P test [] all h = absurd (grind arith)
any_of_all P test (k ∷ ks) all h = by_test (test k) refl (any_of_all P test ks (λ i d lt. all (suc i) d (omega (arith, lt))))
  where
    by_test : (b : Bool) → test k ≡ b → (list_any test ks ≡ true → (j : ℕ) × P j × (test j ≡ true)) → (j : ℕ) × P j × (test j ≡ true)
    by_test true on more = (k, all 0 k (omega arith), on)
    by_test false off more = more (ap (λ b. b || list_any test ks) (sym off) ∙ h)

-- what the rows of these numbers ask for
module _ (rows : List RowView) (test : ℕ → Bool) (demands : ℕ → ℕ) (each : (k : ℕ) (row : RowView) → slice_get rows k ≡ Some row → demands k ≡ row.demand) where
  asked_one :
      (k : ℕ) (ks : List ℕ) (found : Option RowView) → slice_get rows k ≡ found → k < length rows
      → asked (cons_option found (chosen rows ks)) ≡ demands k + asked (chosen rows ks)
  asked_one k ks None none lt = absurd (past (length rows) refl)
    where
      past : (n : ℕ) → length rows ≡ n → ⊥
      past n e = none_some (sym none ∙ there)
        where
          none_some : {row : RowView} → None ≡ Some row → ⊥
          none_some e = cc

          there : slice_get rows k ≡ Some (get_or rows k (record { id = []; demand = 0; offers = [] }))
          there = slice_get-get_or rows k (record { id = []; demand = 0; offers = [] }) lt
  asked_one k ks (Some row) is lt = omega (arith, sum_by-cons (λ (r : RowView). r.demand) row (chosen rows ks), each k row is)

  asked_from : (a n : ℕ) → a + n ≤ length rows → asked (chosen rows (filter test (range_with_len a n))) ≡ total (λ i. cond (test (a + i)) (demands (a + i)) 0) n
  asked_from a zero within = refl
  asked_from a (suc n) within = by_test (test a) refl (asked_from (a + 1) n (omega arith))
    where
      shifted : total (λ i. cond (test (a + 1 + i)) (demands (a + 1 + i)) 0) n ≡ total (λ i. cond (test (a + suc i)) (demands (a + suc i)) 0) n
      shifted =
          total_same (λ i. cond (test (a + 1 + i)) (demands (a + 1 + i)) 0) (λ i. cond (test (a + suc i)) (demands (a + suc i)) 0) n
          (λ i lt. let e : a + 1 + i ≡ a + suc i = omega arith in ap (λ k. cond (test k) (demands k) 0) e)

      first : (b : Bool) → test a ≡ b → cond (test (a + 0)) (demands (a + 0)) 0 ≡ cond b (demands a) 0
      first b e = let plus : a + 0 ≡ a = omega arith in ap (λ k. cond (test k) (demands k) 0) plus ∙ ap (λ t. cond t (demands a) 0) e

      by_test :
          (b : Bool) → test a ≡ b → asked (chosen rows (filter test (range_with_len (a + 1) n))) ≡ total (λ i. cond (test (a + 1 + i)) (demands (a + 1 + i)) 0) n
          → asked (chosen rows (cond b (a ∷ filter test (range_with_len (a + 1) n)) (filter test (range_with_len (a + 1) n))))
          ≡ cond (test (a + 0)) (demands (a + 0)) 0 + total (λ i. cond (test (a + suc i)) (demands (a + suc i)) 0) n
      by_test true on rest =
          let one = asked_one a (filter test (range_with_len (a + 1) n)) (slice_get rows a) refl (omega arith) in
          omega (arith, one, rest, shifted, first true on)
      by_test false off rest = omega (arith, rest, shifted, first false off)

pub asked_by_marks :
    (rows : List RowView) (marks : List Bool) (demands : ℕ → ℕ) → ((k : ℕ) (row : RowView) → slice_get rows k ≡ Some row → demands k ≡ row.demand)
    → length marks ≡ length rows → asked (chosen rows (marked_places marks)) ≡ total (λ k. cond (is_marked marks k) (demands k) 0) (length rows)
asked_by_marks rows marks demands each long =
    ap (λ n. asked (chosen rows (filter (is_marked marks) (range_with_len 0 n)))) long
    ∙ asked_from rows (is_marked marks) demands each 0 (length rows) (omega arith)
    ∙ total_same (λ i. cond (is_marked marks (0 + i)) (demands (0 + i)) 0) (λ k. cond (is_marked marks k) (demands k) 0) (length rows)
    (λ i lt. let e : 0 + i ≡ i = omega arith in ap (λ k. cond (is_marked marks k) (demands k) 0) e)

-- all rows ask for what each asks for
pub asked_by_rows :
    (rows : List RowView) (demands : ℕ → ℕ) → ((k : ℕ) (row : RowView) → slice_get rows k ≡ Some row → demands k ≡ row.demand)
    → total demands (length rows) ≡ asked rows
asked_by_rows [] demands each = refl
asked_by_rows (row ∷ rows) demands each =
    let rest = asked_by_rows rows (λ k. demands (suc k)) (λ k r is. each (suc k) r is) in
    omega (arith, sum_by-cons (λ (r : RowView). r.demand) row rows, each 0 row refl, rest)
